-- The counts as the loops over a list keep them: how often each thread moved and waited, in two arrays. How often it was idle is what is
-- left of its entries.
--     Agree      one kind of the counts, in an array
--     Numbers    both kinds
--     RunTo      where a run has come to, with its numbers
--     one_more, moved_after, waiting_after
--                what an entry adds
--     AtMost     no number is above this one
--     tallied    a thread's counts, of the list and its numbers
--     Active     how many of a thread's entries moved or waited
--     Tally      ... of each thread
use Rattle.std.specs.Prelude.{◌≡◌, ℕ, ◌+◌, ◌-◌, ◌<◌, ◌≤◌, Bool, false, List, length, get_or, ◌==◌, slice_index, slice_set}
use Rattle.program.specs.Limits.{thread_limit}
use Rattle.machine.specs.Internal.Kept.{nobody}
use Rattle.machine.specs.Run.{Run, counts_of, times_named}
use Rattle.machine.specs.State.{State}
use Rattle.machine.specs.declared.counts.Counts.{Counts}
use Rattle.machine.specs.declared.thread.Outcome.{Outcome}
use Rattle.machine.specs.declared.thread.Outcome.TheVariants.{Moved, Waiting, Idle}
use Rattle.machine.specs.declared.thread.Thread.{Thread}

-- one kind of the counts is kept in an array
abbrev pub Agree : (Counts → ℕ) → List Counts → List ℕ → Type 0
Agree kind cs ns = (t : ℕ) → t < thread_limit → kind (counts_of cs t) ≡ slice_index ns t

-- how often each thread moved and waited
pub record Numbers (cs : List Counts) (moved waiting : List ℕ) : Type 0 where
  pub threads : length cs ≡ thread_limit
  pub moved_long : length moved ≡ thread_limit
  pub waiting_long : length waiting ≡ thread_limit
  pub moved_are : Agree (λ (c : Counts). c.moved) cs moved
  pub waiting_are : Agree (λ (c : Counts). c.waiting) cs waiting

-- a run has come to this state, and these numbers are those of its counts
abbrev pub RunTo : Run → State → (moved waiting : List ℕ) → Type 0
RunTo r here moved waiting = (r.state ≡ here) × Numbers r.counts moved waiting

-- one more for thread t
abbrev pub one_more : ℕ → List ℕ → List ℕ
one_more t ns = slice_set ns t (slice_index ns t + 1)

-- the numbers after an entry of thread t
abbrev pub moved_after : Outcome → ℕ → List ℕ → List ℕ
moved_after Moved t ns = one_more t ns
moved_after Waiting t ns = ns
moved_after Idle t ns = ns

abbrev pub waiting_after : Outcome → ℕ → List ℕ → List ℕ
waiting_after Moved t ns = ns
waiting_after Waiting t ns = one_more t ns
waiting_after Idle t ns = ns

-- no thread moved or waited more often
unfoldable pub AtMost : ℕ → (moved waiting : List ℕ) → Type 0
AtMost n moved waiting = (t : ℕ) → t < thread_limit → (slice_index moved t ≤ n) × (slice_index waiting t ≤ n)

abbrev pub tallied : List ℕ → (t moved waiting : ℕ) → Counts
tallied list t moved waiting = record { moved = moved; waiting = waiting; idle = times_named t list - (moved + waiting) }

-- thread t moved or waited in so many entries: in no more than the list names it, and in all of these if it is not at its end
abbrev pub Active : List ℕ → (t active : ℕ) (ended : Bool) → Type 0
Active list t active ended = (active ≤ times_named t list) × (ended ≡ false → times_named t list ≡ active)

-- of each thread, by its place and how many instructions its code has
unfoldable pub Tally : (list counts : List ℕ) → List Thread → (moved waiting : List ℕ) → Type 0
Tally list counts threads moved waiting =
    (t : ℕ) → t < thread_limit → Active list t (slice_index moved t + slice_index waiting t) ((get_or threads t nobody).place == slice_index counts t)
