-- Laws that belong to no one function.
--     Table   a table of src/ read at two atomicities
--     Laws    the laws of the algebra, from one computed test
pub mod Table
pub mod Laws
