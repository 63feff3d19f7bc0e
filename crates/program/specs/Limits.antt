-- Limits and sizes (the standard, "Limits", "The file", "The report", "The step machine", "Line and bench", "Who can bring a number
-- about"), in its order, each with the sentence that sets it: no other definition or contract writes these numbers. They are
-- abbreviations, so a proof sees the number. src/limits.rt has the same names for code.
use Rattle.std.specs.Prelude.{ℕ, ◌+◌, ◌*◌}

-- The file

-- "Byte 1 is the number of locks, 0 to 16"
abbrev pub lock_limit : ℕ
lock_limit = 16

-- "Byte 2 is the number of threads, 1 to 8"
abbrev pub thread_limit : ℕ
thread_limit = 8

-- "A variable record has 6 bytes"; "At most 64 records"
abbrev pub variable_size : ℕ
variable_size = 6

abbrev pub variable_limit : ℕ
variable_limit = 64

-- the offset of variable record v, the first behind three bytes and "a 2-byte length"; past the last record the code sections begin
abbrev pub records_start : ℕ
records_start = 5

abbrev pub record_offset : ℕ → ℕ
record_offset v = records_start + variable_size * v

-- "An instruction has 4 bytes"; "At most 1,024 in a thread"
abbrev pub instruction_size : ℕ
instruction_size = 4

abbrev pub instruction_limit : ℕ
instruction_limit = 1024

-- "above 384 or 4,096" ("Who can bring a number about"): the bytes of a variable section and of a code section, without the length
abbrev pub variable_section_limit : ℕ
variable_section_limit = variable_size * variable_limit

abbrev pub code_section_limit : ℕ
code_section_limit = instruction_size * instruction_limit

-- "The largest file has 33,173 bytes": all variable records, then the code sections, each with "a 2-byte length"
abbrev pub largest_file : ℕ
largest_file = record_offset variable_limit + thread_limit * (2 + code_section_limit)

-- "Registers are r0 to r7"
abbrev pub register_count : ℕ
register_count = 8

-- "`statement` means a value from 0 to 4": field a of ATOMIC lies below this
abbrev pub statement_limit : ℕ
statement_limit = 5

-- "a 17th entry opens": the entries open at once
abbrev pub entry_limit : ℕ
entry_limit = 16

-- Atomicities

-- "The report has, for each thread, a byte for each instruction .. and then a byte for the thread's whole code"; "8,200 bytes"
abbrev pub report_limit : ℕ
report_limit = thread_limit * (instruction_limit + 1)

-- The step machine

-- "variables (4 bytes each)", "registers (4 each)"
abbrev pub word_size : ℕ
word_size = 4

-- "its place (2) and registers (4 each)": 34 bytes
abbrev pub thread_size : ℕ
thread_size = 2 + word_size * register_count

-- "That makes 4 bytes a variable, 1 a lock and 34 a thread"
abbrev pub size_of_state : (variables locks threads : ℕ) → ℕ
size_of_state variables locks threads = word_size * variables + locks + thread_size * threads

-- "list above 65,536" ("Who can bring a number about")
abbrev pub list_limit : ℕ
list_limit = 65536

-- Line and bench

-- "a buffer of 48 bytes or more, newline included"
abbrev pub line_size : ℕ
line_size = 48

-- "The longest line has 42 bytes"
abbrev pub longest_line : ℕ
longest_line = 42

-- "It reads at most 33,174 bytes"
abbrev pub bench_limit : ℕ
bench_limit = largest_file + 1
