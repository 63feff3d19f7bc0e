-- Theorems over the definitions that belong to no one function.
--     Numbers   a refusal as C gets it
pub mod Numbers
