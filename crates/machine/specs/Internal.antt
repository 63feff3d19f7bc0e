-- What only proofs and the contracts of inner functions use.
--     Effect   what an instruction does, as the code says it
--     Kept     the state in arrays
--     Here     what a Machine stands for
--     Tally    the counts in arrays
pub mod Effect
pub mod Kept
pub mod Here
pub mod Tally
