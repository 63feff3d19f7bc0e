-- Naming the moves changes nothing of a run. Assumes nothing.
--     step_named_lem             one entry leads to the machine's state
--     run_named_lem, run_end     so does a list, and a list from the start
--     run_moved, moves_counted   of each thread there are as many moves as are counted; from the start
--     moved_by_moves             so lists with the same moves have the same moved counts
use Rattle.std.proofs.Common.{ℕ, ◌+◌, ◌≤◌, ◌<◌, add-zero, zero-add, arith, ◌≡◌, refl, sym, ap, ◌∙◌, List, [], ◌∷◌, length, get_or, replicate, get_or-set_same, get_or-set_other}
use Rattle.std.proofs.Math.Decide.{ℕ_discrete, dec_lt}
use Rattle.std.proofs.Math.Logic.{ite, dite}
use Rattle.std.proofs.Math.ListN.{get_or-eq_default}
use Rattle.machine.proofs.Sums.{count_kept, length-counted, length-counts}
use Rattle.machine.specs.Run.{Run, uncounted, counts_of, counted, counted_for, run_from, run}
use Rattle.machine.specs.declared.counts.Counts.{Counts}
use Rattle.machine.specs.State.{State, start}
use Rattle.machine.specs.Step.{outcome, after, step}
use Rattle.machine.specs.declared.thread.Outcome.{Outcome}
use Rattle.machine.specs.declared.thread.Outcome.TheVariants.{Moved, Waiting, Idle}
use Rattle.program.proofs.Lists.{get_or-replicate_same}
use Rattle.program.specs.Layout.{Program}
use Rattle.program.specs.Limits.{thread_limit}
use Rattle.soundness.specs.Naming.{Move, Named, named_start, move_of, moved, moved_named, step_named, moves_from, moves, moves_of}
use Rattle.soundness.specs.Internal.Traced.{run_named}

abbrev counting : List Counts → State → Run
counting c s = record { counts = c; state = s }

-- one entry
pub step_named_lem : (p : Program) (t : ℕ) (g : Named) → step p t g.machine ≡ (step_named p t g).machine
unfolding step moved_named moved
step_named_lem p t g = by_outcome (outcome p t g.machine)
  where
    by_outcome : (o : Outcome) → after o g.machine (moved p t g.machine) ≡ (after o g (moved_named p t g)).machine
    by_outcome Moved = refl
    by_outcome Waiting = refl
    by_outcome Idle = refl

-- the state
pub run_named_lem : (p : Program) (ts : List ℕ) (g : Named) (c : List Counts) → (run_from p (counting c g.machine) ts).state ≡ (run_named p g ts).machine
unfolding run_from run_named
run_named_lem p [] g c = refl
run_named_lem p (t ∷ ts) g c =
    let d = counted_for t (outcome p t g.machine) c in
    ap (λ (s : State). (run_from p (counting d s) ts).state) (step_named_lem p t g) ∙ run_named_lem p ts (step_named p t g) d

-- the moves of thread t

-- a move counts for its thread, and for no other
counted_move : {P : Type 0} (d : Dec P) {n n' : ℕ} (m : Move) (l : List Move) → (P → n' ≡ n + 1) → (¬ P → n' ≡ n)
    → n' + length l ≡ n + length (ite d (m ∷ l) l)
counted_move (yes e) m l same other = omega (arith, same e)
counted_move (no e) m l same other = omega (arith, other e)

module _ (cs : List Counts) (u t : ℕ) (h : t < length cs) (g : Named) (l : List Move) where
  counted_also : (o : Outcome)
      → (counts_of (counted_for u o cs) t).moved + length (moves_of t l) ≡ (counts_of cs t).moved + length (moves_of t (after o l (move_of g u ∷ l)))
  unfolding counts_of counted_for move_of
  counted_also Moved =
      counted_move (ℕ_discrete u t) (move_of g u) (moves_of t l)
      (λ e. rw (e, get_or-set_same cs t (counted Moved (get_or cs t uncounted)) uncounted h))
      (λ n. rw (get_or-set_other cs u t (counted Moved (get_or cs u uncounted)) uncounted (λ e. n (sym e))))
  counted_also Waiting = ap (λ (n : ℕ). n + length (moves_of t l)) (count_kept (λ (c : Counts). c.moved) Waiting cs u t refl)
  counted_also Idle = ap (λ (n : ℕ). n + length (moves_of t l)) (count_kept (λ (c : Counts). c.moved) Idle cs u t refl)

pub run_moved : (p : Program) (ts : List ℕ) (g : Named) (cs : List Counts) (t : ℕ) → t < length cs
    → (counts_of (run_from p (counting cs g.machine) ts).counts t).moved ≡ (counts_of cs t).moved + length (moves_of t (moves_from p g ts))
unfolding run_from moves_from
run_moved p [] g cs t h = sym (add-zero (counts_of cs t).moved)
run_moved p (u ∷ us) g cs t h =
    let o = outcome p u g.machine in
    let d = counted_for u o cs in
    ap (λ (s : State). (counts_of (run_from p (counting d s) us).counts t).moved) (step_named_lem p u g)
    ∙ run_moved p us (step_named p u g) d t (omega (arith, length-counted u o cs))
    ∙ counted_also cs u t h g (moves_from p (step_named p u g) us) o

-- from the start
pub run_end : (p : Program) (ts : List ℕ) → (run p ts).state ≡ (run_named p (named_start p) ts).machine
unfolding run named_start
run_end p ts = run_named_lem p ts (named_start p) (replicate thread_limit uncounted)

pub moves_counted : (p : Program) (ts : List ℕ) (t : ℕ) → t < thread_limit → (counts_of (run p ts).counts t).moved ≡ length (moves_of t (moves p ts))
unfolding run named_start moves counts_of
moves_counted p ts t h =
    run_moved p ts (named_start p) (replicate thread_limit uncounted) t h
    ∙ rw (get_or-replicate_same thread_limit t uncounted) (zero-add (length (moves_of t (moves p ts))))

-- a thread that has no counts has moved in no list
not_counted : (p : Program) (ts : List ℕ) (t : ℕ) → thread_limit ≤ t → counts_of (run p ts).counts t ≡ uncounted
unfolding run counts_of
not_counted p ts t h =
    get_or-eq_default (run p ts).counts uncounted {n = t} (omega (arith, length-counts p (record { counts = replicate thread_limit uncounted; state = start p }) ts))

-- lists in which each thread makes the same moves have the same moved counts
pub moved_by_moves : (p : Program) (ts us : List ℕ) → ((t : ℕ) → moves_of t (moves p ts) ≡ moves_of t (moves p us))
    → (t : ℕ) → (counts_of (run p ts).counts t).moved ≡ (counts_of (run p us).counts t).moved
moved_by_moves p ts us same t = dite (dec_lt t thread_limit)
    (λ (h : t < thread_limit). moves_counted p ts t h ∙ ap (λ (l : List Move). length l) (same t) ∙ sym (moves_counted p us t h))
    (λ (n : ¬ (t < thread_limit)).
    let h : thread_limit ≤ t = omega (arith, n) in
    ap (λ (c : Counts). c.moved) (not_counted p ts t h) ∙ sym (ap (λ (c : Counts). c.moved) (not_counted p us t h)))
