-- The calls for C (include/hogunlas.h); what a reader must believe beside crates/hogunlas/specs.
--     Numbers   the answers as C gets them
pub mod Numbers
