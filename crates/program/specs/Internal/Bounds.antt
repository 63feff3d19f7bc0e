-- Bounds that follow from the limits and that only proofs and inner functions use; src/limits.rt has the same names for code.
use Rattle.std.specs.Prelude.{ℕ, ◌+◌, ◌*◌}
use Rattle.program.specs.Limits.{thread_limit, variable_limit, instruction_limit, line_size}

-- a file's codes: one for each thread
abbrev pub code_limit : ℕ
code_limit = thread_limit

-- the instructions of all threads together
abbrev pub program_limit : ℕ
program_limit = thread_limit * instruction_limit

-- "its place (2)": the largest place that two bytes say
abbrev pub largest_place : ℕ
largest_place = 65535

-- how many lines a printout has: version, locks, threads and variables; each variable, each thread, each instruction, each thread's whole
abbrev pub line_count : (variables threads instructions : ℕ) → ℕ
line_count variables threads instructions = 4 + variables + threads + instructions + threads

-- the longest printout: 8,276 lines, 397,248 bytes
abbrev pub line_limit : ℕ
line_limit = line_count variable_limit thread_limit program_limit

abbrev pub output_limit : ℕ
output_limit = line_limit * line_size
