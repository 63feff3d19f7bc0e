-- The theorem is `Reduction`; `Serial` is the proof, over the laws of lists in `Sequence` and `Permuted`.
pub mod Sequence
pub mod Permuted
pub mod Serial
pub mod Reduction
