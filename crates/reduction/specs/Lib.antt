-- Reduction, with no machine in it. The interface is `Moves`, what is proved of it is `Reduction`; `Sequence` says what both
-- ask of lists, and `Serial` holds what the proof alone speaks of.
pub mod Sequence
pub mod Moves
pub mod Reduction
pub mod Serial
