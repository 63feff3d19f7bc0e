-- Laws that belong to no one function.
--     Definitions     the definitions of judging open
--     LockSets        lock sets, a bit for each lock
--     VariableKinds   the kind of a variable, found in the file
--     AccessRaces     two threads' accesses of one variable, one of them a WRITE, are A
--     AccessRules     what a variable asks of a code, as a rule
--     Effects         what an instruction does in the walk
--     Reports         the report's bytes stored one after the other
--     Frames          how the end of a part is tested
--     Scanning        the scan over flat code is the rules over structured code
--     ScanCodes       ... over the codes of a program
--     NestedSections  the code sections of a sound file are well nested
--     ScanLoop        the loop over one code
--     CodeLoop        the loop over the codes
--     Accepting       from the scan to what judging a file answers
--     Legal           the lock discipline of judging is that of the rules
--     Rules, RulesProgram, RulesFile
--                     judging code, a program and a file is deriving by the rules
--     Statements      in an accepted file every statement is true
--     Unstated        judging a program with its statements taken out
--     Earlier         what the earlier rule for open variables accepted is accepted, of files without statements
pub mod Definitions
pub mod LockSets
pub mod VariableKinds
pub mod AccessRaces
pub mod AccessRules
pub mod Effects
pub mod Reports
pub mod Frames
pub mod Scanning
pub mod ScanCodes
pub mod NestedSections
pub mod ScanLoop
pub mod CodeLoop
pub mod Accepting
pub mod Legal
pub mod Rules
pub mod RulesProgram
pub mod RulesFile
pub mod Statements
pub mod Unstated
pub mod Earlier
