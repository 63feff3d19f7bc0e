-- The step machine (the standard, "The step machine"), in its order; what a reader must believe.
--     State    the state, its start and its bytes
--     Signed   what MULH and LESSS compute
--     Products the tables of "Signed hundredths"
--     Step     one entry of the list
--     Run      a list, and its counts
--     Block    standing inside a block; uninterrupted lists
-- Internal holds what only proofs and inner functions use.
pub mod State
pub mod Signed
pub mod Products
pub mod Step
pub mod Run
pub mod Block
pub mod Internal
