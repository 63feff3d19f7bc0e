-- Laws of the output.
--     Lines     lines laid over a buffer one after the other
--     Outputs   what is printed for each answer of judging
pub mod Lines
pub mod Outputs
