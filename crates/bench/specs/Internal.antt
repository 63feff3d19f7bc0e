-- What only proofs use.
--     Printing   what is printed, and how far printing has come
pub mod Printing
