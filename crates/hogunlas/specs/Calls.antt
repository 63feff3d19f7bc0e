-- What each public call answers, and what its buffer then holds (the standard, "The calls", "Atomicities", "The step machine", "Line
-- and bench"; "Who can bring a number about" for the order of the refusals).
use Rattle.std.specs.Prelude.{ℕ, length, get_or, take, drop, ltb, leb, Result, Ok, Err, List, [], ◌++◌}
use mathlib.Core.List.{flatten}
use Rattle.judge.specs.Acceptance.{Accepted, accept}
use Rattle.machine.specs.Run.{Run, run}
use Rattle.machine.specs.State.{state_bytes}
use Rattle.machine.specs.declared.counts.Counts.{Counts}
use Rattle.printout.specs.Line.{lines, refusal_line}
use Rattle.program.specs.Answer.{Answer, ◌>>=◌, ◌>>◌, require, require_none}
use Rattle.program.specs.Limits.{size_of_state, list_limit, line_size, bench_limit}
use Rattle.program.specs.Choice.{first_bad}
use Rattle.program.specs.Layout.{Program}
use Rattle.program.specs.declared.refusal.Refusal.{Refusal}
use Rattle.program.specs.declared.refusal.Refusal.TheVariants.{LongList, ThreadNumber, ShortBuffer, LineNumber}

-- The lent buffer

-- "later bytes are kept"
unfoldable pub laid_over : (bytes buffer : List ℕ) → List ℕ
laid_over bytes buffer = bytes ++ drop (length bytes) buffer

-- what the buffer holds after a call that writes these bytes, or is refused: "After a refusal the whole buffer is as it was"
abbrev pub buffer_after : {A : Type 0} → (A → List ℕ) → Answer A → List ℕ → List ℕ
buffer_after bytes (Ok a) buffer = laid_over (bytes a) buffer
buffer_after bytes (Err r) buffer = buffer

-- judge

-- the report's bytes for a buffer of `room` bytes. "Judge: 16"
unfoldable pub judge_answer : List ℕ → (room : ℕ) → Answer (List ℕ)
judge_answer s room = do
  a ← accept s
  require (leb (length a.report) room) (ShortBuffer (length a.report))
  Ok a.report

-- "Judge returns its length"
abbrev pub judged_of : Answer (List ℕ) → Result ℕ Refusal
judged_of (Ok report) = Ok (length report)
judged_of (Err r) = Err r

unfoldable pub judge_buffer : List ℕ → List ℕ → List ℕ
judge_buffer s buffer = buffer_after (λ (report : List ℕ). report) (judge_answer s (length buffer)) buffer

-- run

-- "That makes 4 bytes a variable, 1 a lock and 34 a thread"
unfoldable pub state_size : Program → ℕ
state_size p = size_of_state (length p.variables) p.locks p.threads

-- the run for a list and a buffer of `room` bytes. "14, list above 65,536 (D 65,536); 15, thread number too large (D its first
-- index); 16"
unfoldable pub run_answer : List ℕ → (list : List ℕ) → (room : ℕ) → Answer Run
run_answer s list room = do
  a ← accept s
  require (leb (length list) list_limit) (LongList list_limit)
  require_none (first_bad (λ i. ltb (get_or list i 0) a.program.threads) 1 (length list) 0) ThreadNumber
  require (leb (state_size a.program) room) (ShortBuffer (state_size a.program))
  Ok (run a.program list)

-- "Run returns the counts moved, waiting and idle of each of eight threads"
abbrev pub ran_of : Answer Run → Result (List Counts) Refusal
ran_of (Ok r) = Ok r.counts
ran_of (Err r) = Err r

unfoldable pub run_buffer : List ℕ → List ℕ → List ℕ → List ℕ
run_buffer s list buffer = buffer_after (λ (r : Run). state_bytes r.state) (run_answer s list (length buffer)) buffer

-- line

-- line i for a buffer of `room` bytes. "17, i not below the line count (D that count); 16"; "a buffer of 48 bytes or more"
unfoldable pub line_answer : List ℕ → (i room : ℕ) → Answer (List ℕ)
line_answer s i room = do
  a ← accept s
  require (ltb i (length (lines s a.program a.report))) (LineNumber (length (lines s a.program a.report)))
  require (leb line_size room) (ShortBuffer line_size)
  Ok (get_or (lines s a.program a.report) i [])

-- "result: its length": as judged_of, but a name of its own, since each call's contract names its own answer
abbrev pub printed_of : Answer (List ℕ) → Result ℕ Refusal
printed_of (Ok text) = Ok (length text)
printed_of (Err r) = Err r

unfoldable pub line_buffer : List ℕ → ℕ → List ℕ → List ℕ
line_buffer s i buffer = buffer_after (λ (text : List ℕ). text) (line_answer s i (length buffer)) buffer

-- bench

abbrev pub output_of : List ℕ → Answer Accepted → List ℕ
output_of s (Ok a) = flatten (lines s a.program a.report)
output_of s (Err r) = refusal_line r

-- "prints all lines, or `refused N at D` and a newline. It reads at most 33,174 bytes"
unfoldable pub bench_output : List ℕ → List ℕ
bench_output s = output_of (take bench_limit s) (accept (take bench_limit s))
