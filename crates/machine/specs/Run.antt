-- A list of thread numbers, run from the start, and its counts (the standard, "The step machine": "Run returns the counts moved,
-- waiting and idle of each of eight threads").
use Rattle.std.specs.Prelude.{◌≡◌, ℕ, ◌+◌, ◌<◌, ◌≤◌, List, [], ◌∷◌, length, replicate, ◌==◌, slice_index, slice_index_or, slice_set}
use Rattle.program.specs.Choice.{choose}
use Rattle.program.specs.Layout.{Program}
use Rattle.program.specs.Limits.{thread_limit}
use Rattle.machine.specs.State.{State, start}
use Rattle.machine.specs.Step.{outcome, step}
use Rattle.machine.specs.declared.counts.Counts.{Counts}
use Rattle.machine.specs.declared.thread.Outcome.{Outcome}
use Rattle.machine.specs.declared.thread.Outcome.TheVariants.{Moved, Waiting, Idle}

-- each entry is the number of one of so many threads
unfoldable pub Entries : (threads : ℕ) → List ℕ → Type 0
Entries threads list = (i : ℕ) → i < length list → slice_index list i < threads

-- "those of a thread that the file does not have are 0"
abbrev pub uncounted : Counts
uncounted = record { moved = 0; waiting = 0; idle = 0 }

-- the counts of thread t
unfoldable pub counts_of : List Counts → ℕ → Counts
counts_of cs t = slice_index_or cs t uncounted

-- "each the number of the thread's entries of that kind"
abbrev pub counted : Outcome → Counts → Counts
counted Moved c = record { moved = c.moved + 1; waiting = c.waiting; idle = c.idle }
counted Waiting c = record { moved = c.moved; waiting = c.waiting + 1; idle = c.idle }
counted Idle c = record { moved = c.moved; waiting = c.waiting; idle = c.idle + 1 }

-- an entry counts for its thread
unfoldable pub counted_for : ℕ → Outcome → List Counts → List Counts
counted_for t o cs = slice_set cs t (counted o (counts_of cs t))

pub record Run : Type 0 where
  pub counts : List Counts
  pub state : State

-- "each later one from the state that the entry before it left"
unfoldable pub run_from : Program → Run → List ℕ → Run
run_from p r [] = r
run_from p r (t ∷ ts) = run_from p (record { counts = counted_for t (outcome p t r.state) r.counts; state = step p t r.state }) ts

-- "run from the start"
unfoldable pub run : Program → List ℕ → Run
run p ts = run_from p (record { counts = replicate thread_limit uncounted; state = start p }) ts

-- What the counts sum to: "A thread's three counts sum to how often the list names it, and all together sum to the list's length"

unfoldable pub total : Counts → ℕ
total c = c.moved + c.waiting + c.idle

-- of all threads together, what is counted so of each
unfoldable pub sum_of : (Counts → ℕ) → List Counts → ℕ
sum_of kind [] = 0
sum_of kind (c ∷ cs) = kind c + sum_of kind cs

-- how often a list names thread t
unfoldable pub times_named : ℕ → List ℕ → ℕ
times_named t [] = 0
times_named t (u ∷ us) = choose (u == t) 1 0 + times_named t us

-- of the counts of a list that is run by a program
pub record AddsUp (p : Program) (list : List ℕ) (cs : List Counts) : Type 0 where
  pub eight : length cs ≡ thread_limit
  pub each : (t : ℕ) → t < thread_limit → total (counts_of cs t) ≡ times_named t list
  pub together : sum_of total cs ≡ length list
  pub absent : (t : ℕ) → p.threads ≤ t → counts_of cs t ≡ uncounted
