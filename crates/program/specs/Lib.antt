-- The file (the standard, "The file"), in its order; what a reader must believe.
--     Limits       limits and sizes by name
--     Refusal      numbers and details
--     Choice       how definitions decide
--     Answer       what is answered, or the refusal
--     Field        fields, cursor, sections
--     Variable     variable records
--     Instruction  the table of op codes
--     View         what the rules see of an instruction: its access or its form
--     Nesting      entries and named places
--     Layout       the whole file, front to back, and its contents
--     Writers      the threads that write a variable
--     Code         structured code
--     Unstated     a file with its statements taken out
-- Internal holds what only proofs and inner functions use.
pub mod Limits
pub mod Refusal
pub mod Choice
pub mod Answer
pub mod Field
pub mod Variable
pub mod Instruction
pub mod View
pub mod Nesting
pub mod Layout
pub mod Writers
pub mod Code
pub mod Unstated
pub mod Internal
