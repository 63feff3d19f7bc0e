-- What only proofs and the contracts of inner functions use.
--     Nested      every code of a program is well nested
--     Judgement   what judging a file answers, and what it leaves in the report's buffer
--     Effect      what an instruction does in the walk over a code
--     Rule        what a variable asks of a code that reads or writes it, as a byte
--     Scan        judging as one walk over flat code; proofs/Scanning.antt proves that it agrees with the rules
--     Earlier     the rule for open variables in the standard's version 1.0
pub mod Nested
pub mod Judgement
pub mod Effect
pub mod Rule
pub mod Scan
pub mod Earlier
