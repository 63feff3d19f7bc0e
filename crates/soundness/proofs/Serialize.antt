-- Demand 3 for every program whose threads' code is annotated. Assumes nothing.
--     invariant_start   the invariant holds at the start
--     serialized        start and end are quiescent and keep the invariant, so reduction gives the list
use Rattle.std.proofs.Common.{ℕ, ◌≤◌, ◌<◌, arith, ◌≡◌, refl, sym, ap, ◌∙◌, subst, List, length, replicate}
use Rattle.std.proofs.Math.Decide.{dec_lt}
use Rattle.std.proofs.Math.Logic.{dite}
use Rattle.std.proofs.Math.ListN.{length-replicate, get_or-eq_default}
use Rattle.judge.specs.LockSet.{empty}
use Rattle.judge.specs.declared.lock_set.LockSet.{LockSet}
use Rattle.judge.proofs.LockSets.{empty_holds}
use Rattle.machine.specs.Block.{NobodyInside, Uninterrupted}
use Rattle.machine.specs.Run.{run}
use Rattle.machine.specs.State.{State, thread_of, start, fresh}
use Rattle.machine.specs.declared.thread.Thread.{Thread}
use Rattle.program.proofs.Differ.{differ}
use Rattle.program.proofs.Lists.{get_or-replicate_same}
use Rattle.program.specs.Layout.{Program}
use Rattle.reduction.specs.Moves.{outside}
use Rattle.reduction.specs.Reduction.{Quiescent}
use Rattle.reduction.proofs.Reduction.{reduction, same_precedence}
use Rattle.soundness.specs.Internal.Access.{Owns}
use Rattle.soundness.specs.Internal.Flow.{Leads}
use Rattle.soundness.specs.Internal.Instance.{ThreadsAnnotated, label_of, Invariant, machine_moves}
use Rattle.soundness.specs.Demand.{ThreadsOf, Serialized}
use Rattle.soundness.specs.Naming.{Named, named_start, moves, moves_of, Precedes}
use Rattle.soundness.specs.Internal.Prefix.{Prefix, outer, status_of, Below, below_outer, proper_outer}
use Rattle.soundness.specs.Internal.Traced.{threads_of}
use Rattle.soundness.proofs.Instance.{inside_row, machine_movers}
use Rattle.soundness.proofs.Naming.{run_end, moved_by_moves}
use Rattle.soundness.proofs.Prefix.{outer_outside}
use Rattle.soundness.proofs.Traced.{traced, listed}

-- ---- the start

start_fresh : (p : Program) (t : ℕ) → thread_of (start p) t ≡ fresh
unfolding thread_of start
start_fresh p t = get_or-replicate_same p.threads t fresh

start_place : (p : Program) (t : ℕ) → (thread_of (start p) t).place ≡ 0
unfolding fresh
start_place p t = ap (λ (th : Thread). th.place) (start_fresh p t)

owns_empty : (t : ℕ) (ks : List ℕ) → Owns t empty ks
owns_empty t ks = record { owner = λ k e. let f = empty_holds k in differ cc }

outer_begun : {m : Prefix} → Below outer m → status_of m ≡ outside
unfolding status_of
outer_begun below_outer = refl

-- a thread that the state does not have counts as standing at its start
place_absent : (s : State) (t : ℕ) → length s.threads ≤ t → (thread_of s t).place ≡ 0
unfolding thread_of fresh
place_absent s t h = ap (λ (th : Thread). th.place) (get_or-eq_default s.threads fresh h)

module _ (p : Program) (A : ThreadsAnnotated p) where
  start_label : (t : ℕ) → Leads empty outer (label_of p A (named_start p) t)
  unfolding named_start
  start_label t = subst (λ (q : ℕ). Leads empty outer ((A t).label_from outer q)) (sym (start_place p t)) ((A t).begun outer proper_outer)

  pub invariant_start : Invariant p A (named_start p)
  unfolding named_start start
  invariant_start = record {
    owns = λ t.
        subst (λ (s : LockSet). Owns t s (replicate p.locks 0)) (start_label t).same_locks
        (owns_empty t (replicate p.locks 0));
    places = λ t. omega (arith, start_place p t);
    lock_count = length-replicate p.locks 0;
    thread_count = length-replicate p.threads fresh;
    finished_count = length-replicate p.threads 0;
  }

  quiescent_start : Quiescent (machine_moves p A) (named_start p)
  quiescent_start t = outer_begun (start_label t).below

  -- ---- the end

  quiescent_end : {v : Named} → Invariant p A v → NobodyInside p v.machine → Quiescent (machine_moves p A) v
  unfolding NobodyInside
  quiescent_end {v} inv nobody t = dite (dec_lt t p.threads)
      (λ (h : t < p.threads). outer_outside (label_of p A v t).prefix (sym (inside_row p A inv t) ∙ nobody t h))
      (λ (n : ¬ (t < p.threads)).
      let absent = place_absent v.machine t (omega (arith, inv.thread_count)) in
      subst (λ (q : ℕ). status_of ((A t).label_from outer q).prefix ≡ outside) (sym absent) (outer_begun ((A t).begun outer proper_outer).below))

  -- ---- the theorem

  pub serialized : (list : List ℕ) → ThreadsOf p list → NobodyInside p (run p list).state → Serialized p list
  unfolding moves named_start Uninterrupted
  serialized list threads nobody =
      let T = traced p A list threads (named_start p) invariant_start in
      let end = quiescent_end T.invariant (subst (NobodyInside p) (run_end p list) nobody) in
      let R = reduction (machine_moves p A) (machine_movers p A) T.trace quiescent_start end in
      let L = listed p A R.uninterrupted invariant_start in
      let serial = threads_of R.moves in
      let each : (t : ℕ) → moves_of t (moves p serial) ≡ moves_of t (moves p list) = λ t. ap (moves_of t) L.same_moves ∙ R.same_moves t in
      record {
        serial = serial;
        threads = L.threads;
        uninterrupted = L.uninterrupted;
        same_state = run_end p serial ∙ ap (λ (g : Named). g.machine) L.same_end ∙ sym (run_end p list);
        same_moved = moved_by_moves p serial list each;
        same_moves = each;
        same_order = λ a b h. subst (Precedes a b) (sym L.same_moves) (same_precedence (machine_moves p A) R a b h);
      }
