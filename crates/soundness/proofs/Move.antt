-- One move. Assumes nothing.
--     moved_waits, moved_place         a thread that moves does not wait, and is not at its code's end
--     thread_moved, thread_moved_lem   the thread that moves, afterwards
--     thread_other, place_other, label_other
--                                      the others, and where they stand
--     in_threads, in_finished          a thread of the program is one of the state's
--     goes, permitted, access_below    what the invariant says of its mover, its lock set, its lock or variable
--     invariant_moved                  the invariant holds afterwards
use Rattle.std.proofs.Common.{ℕ, ◌≤◌, ◌<◌, arith, ◌≡◌, refl, sym, ap, ◌∙◌, subst, ◌≢◌, Bool, true, false, length, length-set, get_or-set_same, get_or-set_other, eqb}
use borrow.Author.Tests.{eqb-false}
use Rattle.std.proofs.Math.Decide.{ℕ_discrete}
use Rattle.std.proofs.Math.Logic.{Ne-symm, dite}
use Rattle.judge.specs.declared.lock_set.LockSet.{LockSet}
use Rattle.machine.specs.State.{State, thread_of, fresh}
use Rattle.program.proofs.Differ.{differ}
use Rattle.program.specs.View.{access_of}
use Rattle.machine.specs.Step.{waits, value_read, locks_after, place_after, thread_after, instruction_of, move_by, outcome}
use Rattle.machine.specs.declared.thread.Outcome.TheVariants.{Moved, Waiting, Idle}
use Rattle.machine.specs.declared.thread.Thread.{Thread}
use Rattle.program.specs.Choice.{choose}
use Rattle.program.specs.Layout.{Program, code_of}
use Rattle.program.specs.Internal.Sound.{AccessBelow}
use Rattle.program.specs.declared.instruction.Instruction.{Instruction}
use Rattle.soundness.specs.Internal.Access.{Permitted, Owns}
use Rattle.soundness.specs.Internal.Flow.{Label, Follows}
use Rattle.soundness.specs.Internal.Labelled.{Arrives}
use Rattle.soundness.specs.Internal.Instance.{ThreadsAnnotated, next_instruction, next_access, place_of, label_of, row_of, next_mover, Invariant}
use Rattle.soundness.specs.Naming.{Named, moved, moved_named}
use Rattle.soundness.specs.Internal.Prefix.{outer, proper_outer, Goes}
use Rattle.judge.specs.Rules.{Legal}
use Rattle.machine.proofs.Kept.{length-locks_after}
use Rattle.soundness.proofs.Access.{legal_permitted, legal_set}
use Rattle.soundness.proofs.Owns.{owns_moved, owns_other}

-- ---- what `Moved` says

moved_not_idle : (a b : Bool) → choose a Idle (choose b Waiting Moved) ≡ Moved → a ≡ false
moved_not_idle true b e = differ cc
moved_not_idle false b e = refl

moved_not_waiting : (a b : Bool) → choose a Idle (choose b Waiting Moved) ≡ Moved → b ≡ false
moved_not_waiting true b e = differ cc
moved_not_waiting false true e = differ cc
moved_not_waiting false false e = refl

module _ (p : Program) (t : ℕ) (s : State) (e : outcome p t s ≡ Moved) where
  pub moved_waits : waits (access_of (instruction_of p t s)) s.locks ≡ false
  unfolding outcome
  moved_waits = moved_not_waiting (eqb (thread_of s t).place (length (code_of p t))) (waits (access_of (instruction_of p t s)) s.locks) e

  pub moved_place : (thread_of s t).place ≢ length (code_of p t)
  unfolding outcome
  moved_place =
      eqb-false (thread_of s t).place (length (code_of p t))
      (moved_not_idle (eqb (thread_of s t).place (length (code_of p t))) (waits (access_of (instruction_of p t s)) s.locks) e)

-- ---- the threads after a move

module _ (i : Instruction) (t : ℕ) (s : State) where
  -- the thread that moves
  abbrev pub thread_moved : Thread
  thread_moved = thread_after i (value_read (access_of i) s.variables) (thread_of s t)

  pub thread_moved_lem : t < length s.threads → thread_of (move_by i t s) t ≡ thread_moved
  unfolding thread_of move_by
  thread_moved_lem h = get_or-set_same s.threads t _ fresh h

  -- the others
  pub thread_other : (u : ℕ) → u ≢ t → thread_of (move_by i t s) u ≡ thread_of s u
  unfolding thread_of move_by
  thread_other u n = get_or-set_other s.threads t u _ fresh n

-- ---- a move under the invariant

module _ (p : Program) (A : ThreadsAnnotated p) where
  -- the others stay where they are
  pub place_other : (g : Named) (t u : ℕ) → u ≢ t → place_of p A (moved_named p t g) u ≡ place_of p A g u
  unfolding moved_named moved
  place_other g t u n = ap (λ (th : Thread). th.place) (thread_other (next_instruction p g t) t g.machine u n)

  pub label_other : (g : Named) (t u : ℕ) → u ≢ t → label_of p A (moved_named p t g) u ≡ label_of p A g u
  label_other g t u n = ap ((A u).label_from outer) (place_other g t u n)

  module _ {g : Named} (inv : Invariant p A g) (t : ℕ) (b : t < p.threads) (e : outcome p t g.machine ≡ Moved) where
    in_code : place_of p A g t < length (code_of p t)
    in_code = let n = moved_place p t g.machine e in omega (arith, inv.places t)

    pub in_threads : t < length g.machine.threads
    in_threads = omega (arith, inv.thread_count)

    pub in_finished : t < length g.finished
    in_finished = omega (arith, inv.finished_count)

    place_moved : place_of p A (moved_named p t g) t ≡ place_after (next_instruction p g t) (thread_of g.machine t).registers (place_of p A g t)
    unfolding moved_named moved thread_after
    place_moved = ap (λ (th : Thread). th.place) (thread_moved_lem (next_instruction p g t) t g.machine in_threads)

    -- where it leads to
    arrives : Arrives (Follows p t) ((A t).label_from outer) (length (code_of p t)) (row_of p A g t) (thread_of g.machine t).registers
        (place_of p A (moved_named p t g) t)
    unfolding instruction_of
    arrives =
        let registers = (thread_of g.machine t).registers in
        subst (Arrives (Follows p t) ((A t).label_from outer) (length (code_of p t)) (row_of p A g t) registers) (sym place_moved)
        ((A t).flows outer proper_outer (place_of p A g t) in_code registers)

    legal : Legal p t (next_access p g t) (label_of p A g t).locks (label_of p A (moved_named p t g) t).locks
    legal = arrives.along.legal

    -- what its ends say of the move
    pub goes : Goes (next_mover p A g t) (label_of p A g t).prefix (label_of p A (moved_named p t g) t).prefix
    goes = arrives.along.goes

    pub permitted : Permitted p t (label_of p A g t).locks (next_access p g t)
    permitted = legal_permitted legal

    pub access_below : AccessBelow (length g.machine.locks) (length p.variables) (next_access p g t)
    unfolding instruction_of
    access_below = subst (λ (n : ℕ). AccessBelow n (length p.variables) (next_access p g t)) (sym inv.lock_count) ((A t).accesses (place_of p A g t))

    owns_mine : Owns t (label_of p A (moved_named p t g) t).locks (locks_after (next_access p g t) t g.machine.locks)
    owns_mine =
        subst (λ (s : LockSet). Owns t s (locks_after (next_access p g t) t g.machine.locks)) (legal_set legal)
        (owns_moved (inv.owns t) (next_access p g t) permitted access_below)

    -- the invariant holds afterwards
    pub invariant_moved : Invariant p A (moved_named p t g)
    unfolding moved_named moved move_by
    invariant_moved = record {
      owns = λ u. dite (ℕ_discrete u t)
          (λ (same : u ≡ t).
          subst (λ (v : ℕ). Owns v (label_of p A (moved_named p t g) v).locks (moved_named p t g).machine.locks) (sym same) owns_mine)
          (λ (n : u ≢ t). subst (λ (x : Label). Owns u x.locks (moved_named p t g).machine.locks) (sym (label_other g t u n))
          (owns_other (inv.owns t) (Ne-symm n) (inv.owns u) (next_access p g t) permitted (moved_waits p t g.machine e)));
      places = λ u. dite (ℕ_discrete u t)
          (λ (same : u ≡ t). subst (λ (v : ℕ). place_of p A (moved_named p t g) v ≤ length (code_of p v)) (sym same) arrives.within)
          (λ (n : u ≢ t). omega (arith, place_other g t u n, inv.places u));
      lock_count = length-locks_after (next_access p g t) t g.machine.locks ∙ inv.lock_count;
      thread_count = length-set g.machine.threads t _ ∙ inv.thread_count;
      finished_count = length-set g.finished t _ ∙ inv.finished_count;
    }
