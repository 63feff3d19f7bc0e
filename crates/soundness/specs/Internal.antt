-- What only the proof of demand 3 speaks of.
--     Example          files and lists of which demand 3 says something
--     Prefix           where a place stands in its block
--     Places           a list read place by place
--     Labelled         code with a label at each instruction, and its moves from label to label
--     Flow             the labels of typed code: lock sets and prefixes
--     Coverage         rows whose labels say where the blocks are
--     Access           an instruction by its shared access
--     Instance         the machine as an instance of reduction's interface
--     Traced           a list as a trace, and back
--     WellNested       what is asked of a program
--     Unserialized     a file of which demand 3 does not hold
pub mod Example
pub mod Prefix
pub mod Places
pub mod Labelled
pub mod Flow
pub mod Coverage
pub mod Access
pub mod Instance
pub mod Traced
pub mod WellNested
pub mod Unserialized
