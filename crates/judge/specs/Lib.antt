-- Judging (the standard, "Lock discipline", "Atomicities"), in its order; what a reader must believe.
--     LockSet     lock sets
--     Discipline  what an instruction may do, and its atomicity
--     Judging     the rules over structured code, and the report
--     Rules       the rules as derivations
--     Acceptance  sound and accepted files
--     Demand      accepted exactly when the rules derive it
--     Statements  in an accepted file every statement is true
-- Internal holds what only proofs and inner functions use.
pub mod LockSet
pub mod Discipline
pub mod Judging
pub mod Rules
pub mod Acceptance
pub mod Demand
pub mod Statements
pub mod Internal
