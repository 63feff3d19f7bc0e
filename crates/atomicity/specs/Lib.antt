-- What a reader must believe of the atomicities.
--     Atomicity   composition, order, join, closure, report bytes
-- Internal holds what only proofs and inner functions use.
pub mod Atomicity
pub mod Internal
