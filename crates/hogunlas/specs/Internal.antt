-- What only proofs and the contracts of inner functions use.
--     Opened  what is known of an accepted file
pub mod Opened
