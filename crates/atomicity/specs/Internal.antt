-- What only proofs and the contracts of inner functions use.
--     Column   where an atomicity stands in a table
pub mod Column
