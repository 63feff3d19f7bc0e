-- Laws that belong to no one function.
--     Definitions  the definitions of reading open
--     Figures      the standard's figures for the limits that follow from others
--     Differ       constructors that differ are not equal
--     Lists        facts about lists that the kit does not have
--     Answer       answers: going on, and what a fine one went on from
--     Decode       what a decoded instruction's fields satisfy
--     Seen         what the rules see of an instruction that a `_ =>` arm takes
--     Contents     a file's contents by index
--     Writers      the threads that write a variable
--     Search       the search for the first offence
--     TopFirst     the stack of src/stack.rt
--     Scan         the scan for the first place where nesting is broken
--     Innermost    the innermost open entry
--     Walking      the walk over a code section, one instruction at a time
--     Marks        the table of writers, filled an instruction at a time
--     MarkedParts  ... part by part of the file
--     WriterTable  what the table of writers says
--     ReadBack     what is known where reading a part of the file answered a value
--     CodeSections the code sections of the threads, as they are read
--     Steps        the steps of the definition of reading
--     Sound        what a file that is read as sound holds
--     ReadSound    a file that holds it is read as sound
--     SectionTable the table of sections, filled code by code
--     Prefix       bytes past the largest file's length are not looked at
--     Structure    nesting passes exactly for the flat writing of structured code; by way of
--                  StructureFlat (the flat writing, and reading it back), StructureTurn (what a scan that passes has come to),
--                  StructureParse (from the scan to the code) and StructureScan (from the code to the scan)
--     Jumps        distances lead to places of the code
--     Unstated     an instruction, a code and a program with its statements taken out
--     UnstatedFile ... a file: it is read as sound, and its program is the other's with its statements taken out
pub mod Definitions
pub mod Figures
pub mod Differ
pub mod Lists
pub mod Answer
pub mod Decode
pub mod Seen
pub mod Contents
pub mod Writers
pub mod Search
pub mod TopFirst
pub mod Scan
pub mod Innermost
pub mod Walking
pub mod Marks
pub mod MarkedParts
pub mod WriterTable
pub mod ReadBack
pub mod CodeSections
pub mod Steps
pub mod Sound
pub mod ReadSound
pub mod SectionTable
pub mod Prefix
pub mod StructureFlat
pub mod StructureTurn
pub mod StructureParse
pub mod StructureScan
pub mod Structure
pub mod Jumps
pub mod Unstated
pub mod UnstatedFile
