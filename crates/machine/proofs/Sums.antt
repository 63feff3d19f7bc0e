-- Every entry is counted once, for its thread. Assumes nothing.
--     counted_once    by its outcome
--     entries_head, entries_tail, entries_none, entries_more
--                     a list of entries, by its first
--     count_kept      a count that an entry does not change
--     counted_named   one entry, by the thread that it names
--     length-counted, length-counts
--                     an entry and a run keep how many threads are counted
--     from_named, uncounted_named, run_times_named
--                     "A thread's three counts sum to how often the list names it"
--     run_sum         "all together sum to the list's length"
--     run_absent      "those of a thread that the file does not have are 0"
--     run_adds_up     all three
use Rattle.std.proofs.Common.{◌≡◌, ℕ, zero, suc, ◌+◌, ◌<◌, ◌≤◌, eqb, List, [], ◌∷◌, length, get_or, set, replicate, sym, refl, ap, ◌∙◌, arith, length-set, get_or-set_other, get_or-set_same, eq-eqb, ne_eqb}
use native.Mathlib.Decide.{ℕ_discrete}
use Rattle.program.proofs.Lists.{get_or-replicate_same, get_or-set_holds}
use Rattle.program.specs.Choice.{choose}
use Rattle.program.specs.Layout.{Program}
use Rattle.program.specs.Limits.{thread_limit}
use Rattle.machine.specs.State.{State, start}
use Rattle.machine.specs.Step.{outcome}
use Rattle.machine.specs.Run.{Entries, Run, uncounted, counts_of, counted, counted_for, run_from, run, total, sum_of, times_named, AddsUp}
use Rattle.machine.specs.declared.counts.Counts.{Counts}
use Rattle.machine.specs.declared.thread.Outcome.{Outcome}
use Rattle.machine.specs.declared.thread.Outcome.TheVariants.{Moved, Waiting, Idle}
use Rattle.machine.proofs.Entry.{after_entry}

pub counted_once : (o : Outcome) (c : Counts) → total (counted o c) ≡ total c + 1
unfolding total
counted_once Moved c = omega arith
counted_once Waiting c = omega arith
counted_once Idle c = omega arith

-- the entries of a list that has one
pub entries_head : (n t : ℕ) (ts : List ℕ) → Entries n (t ∷ ts) → t < n
unfolding Entries
entries_head n t ts e = e 0 (omega arith)

pub entries_tail : (n t : ℕ) (ts : List ℕ) → Entries n (t ∷ ts) → Entries n ts
unfolding Entries
entries_tail n t ts e i h = e (suc i) (omega arith)

pub entries_none : (n : ℕ) → Entries n []
unfolding Entries
entries_none n i h = absurd (let z : ⊥ = omega arith in z)

pub entries_more : (n t : ℕ) (ts : List ℕ) → t < n → Entries n ts → Entries n (t ∷ ts)
unfolding Entries
entries_more n t ts h e zero k = h
entries_more n t ts h e (suc i) k = e i (omega arith)

-- one entry, of each thread
pub length-counted : (t : ℕ) (o : Outcome) (cs : List Counts) → length (counted_for t o cs) ≡ length cs
unfolding counted_for
length-counted t o cs = length-set cs t _

-- a count that an entry does not change
pub count_kept : (kind : Counts → ℕ) (o : Outcome) (cs : List Counts) (u t : ℕ) → kind (counted o (counts_of cs u)) ≡ kind (counts_of cs u)
    → kind (counts_of (counted_for u o cs) t) ≡ kind (counts_of cs t)
unfolding counts_of counted_for
count_kept kind o cs u t e = get_or-set_holds (λ v (c : Counts). kind c ≡ kind (get_or cs v uncounted)) cs u _ uncounted e t refl

pub counted_named : (u : ℕ) (o : Outcome) (cs : List Counts) (t : ℕ) → t < length cs
    → total (counts_of (counted_for u o cs) t) ≡ total (counts_of cs t) + choose (eqb u t) 1 0
unfolding counted_for counts_of
counted_named u o cs t h = elim (ℕ_discrete t u) [
  | yes same ↦ rw (same, eq-eqb u u refl, get_or-set_same cs u (counted o (get_or cs u uncounted)) uncounted (rw same at h)) (counted_once o (get_or cs u uncounted))
  | no other ↦ rw (get_or-set_other cs u t (counted o (get_or cs u uncounted)) uncounted other, ne_eqb u t (λ e. other (sym e))) (omega arith)
]

module _ (p : Program) where
  pub length-counts : (r : Run) (ts : List ℕ) → length (run_from p r ts).counts ≡ length r.counts
  unfolding run_from
  length-counts r [] = refl
  length-counts r (t ∷ ts) = length-counts (after_entry p r t) ts ∙ length-counted t (outcome p t r.state) r.counts

  length_run : (ts : List ℕ) → length (run p ts).counts ≡ thread_limit
  unfolding run
  length_run ts = length-counts _ ts

  pub from_named : (r : Run) (ts : List ℕ) (t : ℕ) → t < length r.counts
      → total (counts_of (run_from p r ts).counts t) ≡ total (counts_of r.counts t) + times_named t ts
  unfolding run_from times_named
  from_named r [] t h = omega arith
  from_named r (u ∷ us) t h =
      let o = outcome p u r.state in
      from_named (after_entry p r u) us t (omega (arith, length-counted u o r.counts))
      ∙ ap (λ (n : ℕ). n + times_named t us) (counted_named u o r.counts t h)
      ∙ omega arith

  -- from any state, with nothing counted
  pub uncounted_named : (s : State) (ts : List ℕ) (t : ℕ) → t < thread_limit
      → total (counts_of (run_from p (record { counts = replicate thread_limit uncounted; state = s }) ts).counts t) ≡ times_named t ts
  unfolding counts_of total
  uncounted_named s ts t h = from_named _ ts t h ∙ rw (get_or-replicate_same thread_limit t uncounted) (omega arith)

  pub run_times_named : (ts : List ℕ) (t : ℕ) → t < thread_limit → total (counts_of (run p ts).counts t) ≡ times_named t ts
  unfolding run
  run_times_named ts t h = uncounted_named (start p) ts t h

-- all together
sum-set : (cs : List Counts) (t : ℕ) (c : Counts) → t < length cs → total c ≡ total (counts_of cs t) + 1 → sum_of total (set cs t c) ≡ sum_of total cs + 1
unfolding sum_of counts_of
sum-set [] t c h e = absurd (let z : ⊥ = omega arith in z)
sum-set (d ∷ cs) zero c h e = omega (arith, e)
sum-set (d ∷ cs) (suc t) c h e = let f = sum-set cs t c (omega arith) e in omega (arith, f)

module _ (p : Program) where
  from_sum : (r : Run) (ts : List ℕ) → Entries (length r.counts) ts → sum_of total (run_from p r ts).counts ≡ sum_of total r.counts + length ts
  unfolding run_from counted_for
  from_sum r [] h = omega arith
  from_sum r (t ∷ ts) h =
      let o = outcome p t r.state in
      from_sum (after_entry p r t) ts (rw (length-counted t o r.counts) (entries_tail _ t ts h))
      ∙ ap (λ (n : ℕ). n + length ts) (sum-set r.counts t _ (entries_head _ t ts h) (counted_once o (counts_of r.counts t)))
      ∙ omega arith

  pub run_sum : (ts : List ℕ) → Entries thread_limit ts → sum_of total (run p ts).counts ≡ length ts
  unfolding run sum_of total
  run_sum ts h = from_sum _ ts h ∙ omega arith

  pub from_absent : (r : Run) (ts : List ℕ) (n : ℕ) → Entries n ts → (t : ℕ) → n ≤ t → counts_of (run_from p r ts).counts t ≡ counts_of r.counts t
  unfolding run_from counted_for counts_of
  from_absent r [] n h t k = refl
  from_absent r (u ∷ us) n h t k =
      from_absent (after_entry p r u) us n (entries_tail n u us h) t k
      ∙ get_or-set_other r.counts u t _ uncounted (λ e. let z : ⊥ = omega (arith, entries_head n u us h) in z)

  pub run_absent : (ts : List ℕ) (n : ℕ) → Entries n ts → (t : ℕ) → n ≤ t → counts_of (run p ts).counts t ≡ uncounted
  unfolding run counts_of
  run_absent ts n h t k = from_absent _ ts n h t k ∙ get_or-replicate_same thread_limit t uncounted

-- all three, of a program that has at most eight threads
entries_wider : (m n : ℕ) (ts : List ℕ) → m ≤ n → Entries m ts → Entries n ts
unfolding Entries
entries_wider m n ts h e i k = omega (arith, e i k)

pub run_adds_up : (p : Program) (ts : List ℕ) → p.threads ≤ thread_limit → Entries p.threads ts → AddsUp p ts (run p ts).counts
run_adds_up p ts h e = record {
  eight = length_run p ts;
  each = run_times_named p ts;
  together = run_sum p ts (entries_wider p.threads thread_limit ts h e);
  absent = run_absent p ts p.threads e;
}
