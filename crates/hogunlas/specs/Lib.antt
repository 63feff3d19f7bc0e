-- The public calls (the standard, "The calls"); what a reader must believe.
--     Calls     what each call answers, and what its buffer then holds
--     Cases     the standard's starred cases
-- Internal holds what only proofs and inner functions use.
pub mod Calls
pub mod Cases
pub mod Internal
