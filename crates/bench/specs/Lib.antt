-- Definitions for bench's proofs; what a reader must believe is `bench_output` of hogunlas's specs/Calls.antt.
pub mod Internal
