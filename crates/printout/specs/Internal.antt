-- What only proofs and the contracts of inner functions use.
--     Writing  words under way, and what a writing function leaves in the lent buffer
--     Field    the words of fields
--     Item     the printout by its parts, as the code walks them
pub mod Writing
pub mod Field
pub mod Item
