-- The loops over the entries of a list, a part at a time: running the entries that are left from what the arrays hold is running the whole.
-- Assumes nothing.
--     InPart                       what holds before an entry of a part
--     part_start, part_next, part_end
--                                  ... before the first, after an entry, after the last
--     Between                      what holds before a part of a list
--     between_start, between_next
--                                  ... before the first, after a part
--     part_named                   a part of the entries names threads
--     Whole                        what is known of the whole list's run
--     entries_drop                 what is left of a list of entries
--     between_end                  ... where the loop stops: after the last part, or if every thread is at its end
--     ended_early, all_run         ... in either case
--     whole_tally                  the numbers that are kept are those of the whole list
--     whole_counts                 its counts are those of the numbers
use Rattle.std.proofs.Common.{◌≡◌, ℕ, ◌+◌, ◌-◌, ◌<◌, ◌≤◌, List, [], ◌∷◌, ◌++◌, length, get_or, drop, set, replicate, sym, refl, ap, ◌∙◌, subst, add-one, arith, length-append, length-drop, length-set, get_or-drop, drop_of_length-le, drop-cons, get_or-set_other, get_or-set_same, ext_get_or}
use mathlib.Core.Logic.{dite}
use native.Mathlib.Decide.{ℕ_discrete, dec_lt}
use borrow.Author.Tests.{eqb-false}
use lib.Seq.{set-get_or}
use Rattle.std.proofs.lemmas.List.{nil_from_length}
use Rattle.program.proofs.Lists.{get_or-set_holds, get_or-replicate_same}
use Rattle.program.specs.Layout.{Program, program_of}
use Rattle.program.specs.Limits.{thread_limit}
use Rattle.program.specs.Internal.Sections.{SectionTable}
use Rattle.program.specs.declared.layout.Layout.{Layout}
use Rattle.machine.specs.State.{State}
use Rattle.machine.specs.Step.{outcome, step}
use Rattle.machine.specs.Run.{Entries, Run, uncounted, counts_of, counted_for, run_from, total, times_named}
use Rattle.machine.specs.Internal.Kept.{state_in, nobody, Kept, Ended}
use Rattle.machine.specs.Internal.Tally.{one_more, moved_after, waiting_after, Agree, Numbers, RunTo, AtMost, tallied, Tally}
use Rattle.machine.specs.declared.counts.Counts.{Counts}
use Rattle.machine.specs.declared.thread.Outcome.{Outcome}
use Rattle.machine.specs.declared.thread.Outcome.TheVariants.{Moved, Waiting, Idle}
use Rattle.machine.specs.declared.thread.Thread.{Thread}
use Rattle.machine.proofs.Ends.{AtEnd, never_idle}
use Rattle.machine.proofs.Kept.{not_at_end, step_idle}
use Rattle.machine.proofs.Sums.{entries_none, entries_more, entries_head, entries_tail, count_kept, length-counted, length-counts, uncounted_named, from_absent}
use Rattle.machine.proofs.Entry.{after_entry}

-- What is counted

module _ (f : Counts → ℕ) (cs : List Counts) (ns : List ℕ) (t : ℕ) (h : t < length cs) (k : t < length ns) (agree : Agree f cs ns) where
  agree_set : (c : Counts) (n : ℕ) → f c ≡ n → Agree f (set cs t c) (set ns t n)
  unfolding counts_of
  agree_set c n e u l = elim (ℕ_discrete u t) [
    | yes same ↦ rw (same, get_or-set_same cs t c uncounted h, get_or-set_same ns t n 0 k) e
    | no other ↦ rw (get_or-set_other cs t u c uncounted other, get_or-set_other ns t u n 0 other) (agree u l)
  ]

  agree_kept : (c : Counts) → t < thread_limit → f c ≡ f (counts_of cs t) → Agree f (set cs t c) ns
  agree_kept c l e = subst (Agree f (set cs t c)) (set-get_or ns t 0) (agree_set c (get_or ns t 0) (e ∙ agree t l))

module _ (cs : List Counts) (ns : List ℕ) (t : ℕ) (h : t < length cs) (k : t < length ns) (l : t < thread_limit) where
  moved_agree : (o : Outcome) → Agree (λ (c : Counts). c.moved) cs ns → Agree (λ (c : Counts). c.moved) (counted_for t o cs) (moved_after o t ns)
  unfolding counted_for
  moved_agree Moved a = agree_set (λ (c : Counts). c.moved) cs ns t h k a _ _ (ap (λ (n : ℕ). n + 1) (a t l))
  moved_agree Waiting a = agree_kept (λ (c : Counts). c.moved) cs ns t h k a _ l refl
  moved_agree Idle a = agree_kept (λ (c : Counts). c.moved) cs ns t h k a _ l refl

  waiting_agree : (o : Outcome) → Agree (λ (c : Counts). c.waiting) cs ns → Agree (λ (c : Counts). c.waiting) (counted_for t o cs) (waiting_after o t ns)
  unfolding counted_for
  waiting_agree Moved a = agree_kept (λ (c : Counts). c.waiting) cs ns t h k a _ l refl
  waiting_agree Waiting a = agree_set (λ (c : Counts). c.waiting) cs ns t h k a _ _ (ap (λ (n : ℕ). n + 1) (a t l))
  waiting_agree Idle a = agree_kept (λ (c : Counts). c.waiting) cs ns t h k a _ l refl

-- an entry's arrays are as long as before
length-moved_after : (o : Outcome) (t : ℕ) (ns : List ℕ) → length (moved_after o t ns) ≡ length ns
length-moved_after Moved t ns = length-set ns t _
length-moved_after Waiting t ns = refl
length-moved_after Idle t ns = refl

length-waiting_after : (o : Outcome) (t : ℕ) (ns : List ℕ) → length (waiting_after o t ns) ≡ length ns
length-waiting_after Moved t ns = refl
length-waiting_after Waiting t ns = length-set ns t _
length-waiting_after Idle t ns = refl

-- both numbers of each thread grow by at most one
grows : (ns : List ℕ) (t u : ℕ) → get_or (one_more t ns) u 0 ≤ get_or ns u 0 + 1
grows ns t u = get_or-set_holds (λ v (n : ℕ). n ≤ get_or ns v 0 + 1) ns t (get_or ns t 0 + 1) 0 (omega arith) u (omega arith)

at_most_next : (o : Outcome) (t n : ℕ) (moved waiting : List ℕ) → AtMost n moved waiting → AtMost (n + 1) (moved_after o t moved) (waiting_after o t waiting)
unfolding AtMost
at_most_next Moved t n moved waiting h u k = (omega (arith, grows moved t u, (h u k).0), omega (arith, (h u k).1))
at_most_next Waiting t n moved waiting h u k = (omega (arith, (h u k).0), omega (arith, grows waiting t u, (h u k).1))
at_most_next Idle t n moved waiting h u k = (omega (arith, (h u k).0), omega (arith, (h u k).1))

numbers_next : (o : Outcome) (t : ℕ) (cs : List Counts) (moved waiting : List ℕ) → t < thread_limit → Numbers cs moved waiting
    → Numbers (counted_for t o cs) (moved_after o t moved) (waiting_after o t waiting)
numbers_next o t cs moved waiting k x = record {
  threads = length-counted t o cs ∙ x.threads;
  moved_long = length-moved_after o t moved ∙ x.moved_long;
  waiting_long = length-waiting_after o t waiting ∙ x.waiting_long;
  moved_are = moved_agree cs moved t (omega (arith, x.threads, k)) (omega (arith, x.moved_long, k)) k o x.moved_are;
  waiting_are = waiting_agree cs waiting t (omega (arith, x.threads, k)) (omega (arith, x.waiting_long, k)) k o x.waiting_are;
}

-- A part of a list

-- before entry i of a part that began in a state, with these numbers: whatever was counted, it is counted on
pub record InPart (p : Program) (list : List ℕ) (from : State) (moved₀ waiting₀ : List ℕ) (before : ℕ) (now : State) (moved waiting : List ℕ) (i : ℕ) : Type 0 where
  pub at_most : AtMost (before + i) moved waiting
  pub counting : (cs : List Counts) → Numbers cs moved₀ waiting₀
      → (counted : List Counts) × Numbers counted moved waiting
      × (run_from p (record { counts = cs; state = from }) list ≡ run_from p (record { counts = counted; state = now }) (drop i list))

pub part_start : (p : Program) (list : List ℕ) (from : State) (before : ℕ) (moved waiting : List ℕ) → AtMost before moved waiting
    → InPart p list from moved waiting before from moved waiting 0
part_start p list from before moved waiting most = record {
  at_most = let e : before + 0 ≡ before = omega arith in rw e most;
  counting = λ cs x. (cs, x, refl);
}

module _ {p : Program} {list : List ℕ} {from : State} {moved₀ waiting₀ : List ℕ} {before : ℕ} {now : State} {moved waiting : List ℕ} {i : ℕ}
    (x : InPart p list from moved₀ waiting₀ before now moved waiting i) where
  pub part_next : {o : Outcome} {now' : State} → i < length list → get_or list i 0 < thread_limit
      → o ≡ outcome p (get_or list i 0) now → now' ≡ step p (get_or list i 0) now
      → InPart p list from moved₀ waiting₀ before now' (moved_after o (get_or list i 0) moved) (waiting_after o (get_or list i 0) waiting) (i + 1)
  unfolding run_from
  part_next {o} h k e f = let t = get_or list i 0 in record {
    at_most = let a : before + (i + 1) ≡ before + i + 1 = omega arith in rw a (at_most_next o t (before + i) moved waiting x.at_most);
    counting = λ cs n. let y = x.counting cs n in (counted_for t o y.0, numbers_next o t y.0 moved waiting k y.1, y.2 ∙ rw (drop-cons list i 0 h, add-one, e, f));
  }

  pub part_end : length list ≤ i → (cs : List Counts) → Numbers cs moved₀ waiting₀
      → RunTo (run_from p (record { counts = cs; state = from }) list) now moved waiting
  unfolding run_from
  part_end h cs n =
      let y = x.counting cs n in
      let e : run_from p (record { counts = cs; state = from }) list ≡ record { counts = y.0; state = now } = y.2 ∙ rw (drop_of_length-le list {i = i} h) in
      (ap (λ (r : Run). r.state) e, subst (λ (r : Run). Numbers r.counts moved waiting) (sym e) y.1)

-- The parts

-- two lists, one after the other
run_append : (p : Program) (r : Run) (xs ys : List ℕ) → run_from p r (xs ++ ys) ≡ run_from p (run_from p r xs) ys
unfolding run_from
run_append p r [] ys = refl
run_append p r (x ∷ xs) ys = run_append p (after_entry p r x) xs ys

-- before the part with which the rest of the list begins: the entries before it have been run
pub record Between (p : Program) (threads : ℕ) (list : List ℕ) (from now : State) (moved waiting : List ℕ) (before : ℕ) (rest : List ℕ) : Type 0 where
  pub named : Entries threads rest
  pub lengths : before + length rest ≡ length list
  pub at_most : AtMost before moved waiting
  pub so_far : List Counts
  pub numbers : Numbers so_far moved waiting
  pub runs : run_from p (record { counts = replicate thread_limit uncounted; state = from }) list ≡ run_from p (record { counts = so_far; state = now }) rest

pub between_start : (p : Program) (threads : ℕ) (list : List ℕ) (from : State) → Entries threads list
    → Between p threads list from from (replicate thread_limit 0) (replicate thread_limit 0) 0 list
unfolding AtMost counts_of
between_start p threads list from named = record {
  named = named;
  lengths = omega arith;
  at_most = λ t h. rw (get_or-replicate_same {A = ℕ} thread_limit t 0) (omega arith, omega arith);
  so_far = replicate thread_limit uncounted;
  numbers = record {
    threads = refl;
    moved_long = refl;
    waiting_long = refl;
    moved_are = λ t h. rw (get_or-replicate_same thread_limit t uncounted, get_or-replicate_same {A = ℕ} thread_limit t 0) refl;
    waiting_are = λ t h. rw (get_or-replicate_same thread_limit t uncounted, get_or-replicate_same {A = ℕ} thread_limit t 0) refl;
  };
  runs = refl;
}

-- what is left of a list of entries
pub entries_drop : (n : ℕ) (list : List ℕ) (i : ℕ) → Entries n list → Entries n (drop i list)
unfolding Entries
entries_drop n list i e j h = rw (get_or-drop i list j 0) (e (i + j) (omega (arith, length-drop i list)))

-- the entries of two lists, one after the other
entries_append : (n : ℕ) (xs ys : List ℕ) → Entries n (xs ++ ys) → Entries n xs × Entries n ys
entries_append n [] ys h = (entries_none n, h)
entries_append n (x ∷ xs) ys h =
    let both = entries_append n xs ys (entries_tail n x (xs ++ ys) h) in
    (entries_more n x xs (entries_head n x (xs ++ ys) h) both.0, both.1)

module _ {p : Program} {threads : ℕ} {list : List ℕ} {from now : State} {moved waiting : List ℕ} {before : ℕ} {rest : List ℕ}
    (x : Between p threads list from now moved waiting before rest) where
  pub part_named : (part rest' : List ℕ) → rest ≡ part ++ rest' → Entries threads part
  part_named part rest' e = (entries_append threads part rest' (rw e at x.named)).0

  -- a part is run
  pub between_next : (part rest' : List ℕ) {now' : State} {moved' waiting' : List ℕ} → rest ≡ part ++ rest'
      → ((cs : List Counts) → Numbers cs moved waiting
      → RunTo (run_from p (record { counts = cs; state = now }) part) now' moved' waiting')
      → AtMost (before + length part) moved' waiting'
      → Between p threads list from now' moved' waiting' (before + length part) rest'
  between_next part rest' {now'} e ran most =
      let r = run_from p (record { counts = x.so_far; state = now }) part in
      let to = ran x.so_far x.numbers in
      record {
        named = (entries_append threads part rest' (rw e at x.named)).1;
        lengths = let f : length rest ≡ length part + length rest' = ap length e ∙ length-append part rest' in omega (arith, f, x.lengths);
        at_most = most;
        so_far = r.counts;
        numbers = to.1;
        runs =
            x.runs
            ∙ ap (run_from p (record { counts = x.so_far; state = now })) e
            ∙ run_append p _ part rest'
            ∙ ap (λ (here : State). run_from p (record { counts = r.counts; state = here }) rest') to.0;
      }

-- The end

-- a run that has counted so far and goes on from a state: nothing moves or waits any more
abbrev Quiet : State → List Counts → Run → Type 0
Quiet s cs r =
    (r.state ≡ s)
    × ((u : ℕ) → (counts_of r.counts u).moved ≡ (counts_of cs u).moved)
    × ((u : ℕ) → (counts_of r.counts u).waiting ≡ (counts_of cs u).waiting)

-- so it is where each thread is idle
module _ (p : Program) (s : State) (still : (t : ℕ) → t < p.threads → (Idle ≡ outcome p t s) × (s ≡ step p t s)) where
  quiet : (cs : List Counts) (ts : List ℕ) → Entries p.threads ts → Quiet s cs (run_from p (record { counts = cs; state = s }) ts)
  unfolding run_from
  quiet cs [] h = (refl, λ u. refl, λ u. refl)
  quiet cs (t ∷ ts) h =
      let e = still t (entries_head p.threads t ts h) in
      let q = quiet (counted_for t Idle cs) ts (entries_tail p.threads t ts h) in
      let next : ◌≡◌ {A = Run} (record { counts = counted_for t Idle cs; state = s }) (record { counts = counted_for t (outcome p t s) cs; state = step p t s }) =
      ap {B = Run} (λ (o : Outcome). record { counts = counted_for t o cs; state = s }) e.0
      ∙ ap {B = Run} (λ (s' : State). record { counts = counted_for t (outcome p t s) cs; state = s' }) e.1 in
      subst (λ (r : Run). Quiet s cs (run_from p r ts)) next (q.0, λ u. q.1 u ∙ count_kept (λ (c : Counts). c.moved) Idle cs t u refl, λ u. q.2 u ∙ count_kept (λ (c : Counts). c.waiting) Idle cs t u refl)

-- the whole list's run: the state at its end, how often each thread moved and waited, that all of its entries are counted, and that one
-- that is not at its end was never idle
pub record Whole (l : Layout) (counts list : List ℕ) (vs ks : List ℕ) (ths : List Thread) (moved waiting : List ℕ) (r : Run) : Type 0 where
  pub state : r.state ≡ state_in l vs ks ths
  pub numbers : Numbers r.counts moved waiting
  pub names : (t : ℕ) → t < thread_limit → total (counts_of r.counts t) ≡ times_named t list
  pub active : (t : ℕ) → t < thread_limit → ((get_or ths t nobody).place ≡ get_or counts t 0 → ⊥) → (counts_of r.counts t).idle ≡ 0

module _ {s : List ℕ} {l : Layout} {starts counts vs ks : List ℕ} {ths : List Thread} {list : List ℕ} {from : State} {moved waiting : List ℕ} {before : ℕ} {rest : List ℕ}
    (table : SectionTable s l starts counts) (kept : Kept l counts vs ks ths) (entries : Entries l.threads list)
    (x : Between (program_of s l) l.threads list from (state_in l vs ks ths) moved waiting before rest) where
  abbrev p : Program
  p = program_of s l

  abbrev here : State
  here = state_in l vs ks ths

  abbrev first : Run
  first = record { counts = replicate thread_limit uncounted; state = from }

  abbrev whole : Run
  whole = run_from p first list

  none_counted : (t : ℕ) → counts_of (replicate thread_limit uncounted) t ≡ uncounted
  unfolding counts_of
  none_counted t = get_or-replicate_same thread_limit t uncounted

  -- of each thread all of its entries are counted
  all_named : (t : ℕ) → t < thread_limit → total (counts_of whole.counts t) ≡ times_named t list
  all_named = uncounted_named p from list

  -- a thread that is not at its end was never idle, and one that is not there neither
  not_ended : whole.state ≡ here → (t : ℕ) → ((get_or ths t nobody).place ≡ get_or counts t 0 → ⊥) → (counts_of whole.counts t).idle ≡ 0
  not_ended e t n = dite (dec_lt t l.threads)
      (λ (h : t < l.threads).
      never_idle p first list t (λ z. not_at_end table kept t h n (subst (λ (s : State). AtEnd p s t) e z))
      ∙ ap (λ (c : Counts). c.idle) (none_counted t))
      (λ (k : ¬ (t < l.threads)).
      ap (λ (c : Counts). c.idle) (from_absent p first list l.threads entries t (omega (arith, k)) ∙ none_counted t))

  ends : whole.state ≡ here → Numbers whole.counts moved waiting → Whole l counts list vs ks ths moved waiting whole
  ends e numbers = record { state = e; numbers = numbers; names = all_named; active = λ t _. not_ended e t }

  -- where every thread is at its end
  quiet_numbers : Quiet here x.so_far whole → Numbers whole.counts moved waiting
  quiet_numbers q = record {
    threads = length-counts p first list;
    moved_long = x.numbers.moved_long;
    waiting_long = x.numbers.waiting_long;
    moved_are = λ u h. q.1 u ∙ x.numbers.moved_are u h;
    waiting_are = λ u h. q.2 u ∙ x.numbers.waiting_are u h;
  }

  pub between_end : (before < length list → (t : ℕ) → t < l.threads → (get_or ths t nobody).place ≡ get_or counts t 0)
      → Whole l counts list vs ks ths moved waiting whole
  unfolding run_from program_of
  between_end ended = elim (dec_lt before (length list)) [
    | yes h ↦
        let still : (t : ℕ) → t < l.threads → (Idle ≡ outcome p t here) × (here ≡ step p t here) = λ t k. step_idle table kept t k (ended h t k) in
        let q = subst (Quiet here x.so_far) (sym x.runs) (quiet p here still x.so_far rest x.named) in
        ends q.0 (quiet_numbers q)
    | no h ↦
        let none : length rest ≡ 0 = omega (arith, h, x.lengths) in
        let e : whole ≡ record { counts = x.so_far; state = here } = x.runs ∙ rw (nil_from_length rest none) in
        ends (ap (λ (r : Run). r.state) e) (subst (λ (r : Run). Numbers r.counts moved waiting) (sym e) x.numbers)
  ]

  -- every thread is at its end: the rest is idle
  pub ended_early : Ended counts ths → Whole l counts list vs ks ths moved waiting whole
  unfolding Ended
  ended_early ended = between_end (λ _ t k. ended t (omega (arith, table.sound.threads)))

  -- nothing is left
  pub all_run : length rest ≡ 0 → Whole l counts list vs ks ths moved waiting whole
  all_run none = between_end (λ h t k. omega (arith, h, none, x.lengths))

-- a thread's counts by two of them and their sum
counts_are : (c : Counts) {m w n : ℕ} → c.moved ≡ m → c.waiting ≡ w → total c ≡ n → c ≡ record { moved = m; waiting = w; idle = n - (m + w) }
unfolding total
counts_are c e f g =
    let d : c.idle ≡ total c - (c.moved + c.waiting) = omega arith in
    rw (← e, ← f, ← g) (ap (λ (n : ℕ). record { moved = c.moved; waiting = c.waiting; idle = n }) d)

module _ {l : Layout} {counts list vs ks : List ℕ} {ths : List Thread} {moved waiting : List ℕ} {r : Run} (x : Whole l counts list vs ks ths moved waiting r) where
  pub whole_tally : Tally list counts ths moved waiting
  unfolding Tally total
  whole_tally t h =
      let n = x.numbers in (
        omega (arith, x.names t h, n.moved_are t h, n.waiting_are t h),
        λ e.
            let idle = x.active t h (eqb-false (get_or ths t nobody).place (get_or counts t 0) e) in
            omega (arith, x.names t h, n.moved_are t h, n.waiting_are t h, idle),
      )

  pub whole_counts : (cs : List Counts) → length cs ≡ thread_limit
      → ((t : ℕ) → t < thread_limit → counts_of cs t ≡ tallied list t (get_or moved t 0) (get_or waiting t 0))
      → r ≡ record { counts = cs; state = state_in l vs ks ths }
  unfolding counts_of
  whole_counts cs e h =
      let n = x.numbers in
      let same : r.counts ≡ cs = ext_get_or uncounted r.counts cs (n.threads ∙ sym e) (λ t k. let k' : t < thread_limit = omega (arith, n.threads) in
      counts_are (counts_of r.counts t) (n.moved_are t k') (n.waiting_are t k') (x.names t k') ∙ sym (h t k')) in
      ap (λ (c : List Counts). record { counts = c; state = r.state }) same ∙ ap (λ (s : State). record { counts = cs; state = s }) x.state
