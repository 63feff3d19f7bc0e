-- The printout (the standard, "Line and bench"), in its order; what a reader must believe.
--     Text     hexadecimal, decimal and fixed texts
--     Line     every line
-- Internal holds what only proofs and inner functions use.
pub mod Text
pub mod Line
pub mod Internal
