-- The step machine obeys the laws of movers (`machine_movers`); standing inside, as the machine sees it and as labels do
-- (`inside_row`). Assumes nothing.
use Rattle.std.proofs.Common.{ℕ, ◌<◌, ◌≡◌, refl, sym, ap, ap₂, ◌∙◌, subst, ◌≢◌, Bool, false, get_or, get_or-set_same, T}
use Rattle.std.proofs.Math.Logic.{Ne-symm}
use Rattle.atomicity.specs.Atomicity.{at_most}
use Rattle.atomicity.specs.declared.Atomicity.TheVariants.{Left}
use Rattle.judge.specs.Discipline.{mover_of}
use Rattle.machine.specs.Block.{inside}
use Rattle.program.specs.View.{access_of}
use Rattle.machine.specs.State.{thread_of}
use Rattle.machine.specs.Step.{waits, locks_after, instruction_of, move_by, outcome}
use Rattle.machine.specs.declared.thread.Outcome.TheVariants.{Moved}
use Rattle.program.proofs.Writers.{has_write_lem}
use Rattle.program.specs.Layout.{Program, code_of}
use Rattle.program.specs.declared.instruction.Instruction.{Instruction}
use Rattle.reduction.specs.Moves.{Movers, Unmoved, Swappable, outside}
use Rattle.soundness.specs.Internal.Access.{Permitted, StandsIn, Independent, Swaps, right_first, left_second}
use Rattle.soundness.specs.Internal.Flow.{Label, mover_at}
use Rattle.soundness.specs.Internal.Labelled.{Row, row}
use Rattle.soundness.specs.Internal.Instance.{ThreadsAnnotated, next_instruction, next_access, Swapped, place_of, label_of, row_of, next_mover, Invariant, Moving, machine_moves, block_of}
use Rattle.soundness.specs.Naming.{Move, Named, block_name, move_of, moved, moved_named, finished_after}
use Rattle.soundness.specs.Internal.Prefix.{outer, status_of, is_inner, Goes}
use Rattle.soundness.proofs.Commute.{instruction_other, outcome_other, block_other, move_other, moved_named_comm}
use Rattle.soundness.proofs.Independent.{independent}
use Rattle.soundness.proofs.Move.{moved_waits, label_other, in_finished, goes, permitted, access_below, invariant_moved}
use Rattle.soundness.proofs.Prefix.{goes_right, goes_left, goes_committed, not_outside_inner}

module _ (p : Program) (A : ThreadsAnnotated p) where
  -- standing inside, as the machine sees it and as the row does
  pub inside_row : {g : Named} → Invariant p A g → (t : ℕ) → inside p g.machine t ≡ is_inner (label_of p A g t).prefix
  unfolding inside is_inner
  inside_row {g} inv t = (A t).covered outer (place_of p A g t)

  -- the row of a thread that does not move
  row_other : (g : Named) {t u : ℕ} → u ≢ t → row_of p A (moved_named p t g) u ≡ row_of p A g u
  unfolding moved_named moved
  row_other g {t} {u} n =
      ap₂ (λ (i : Instruction) (x : Label). row i x) (instruction_other p (next_instruction p g t) g.machine n) (label_other p A g t u n)

  -- ---- two moves

  -- a thread's next access, if it is a WRITE, stands in its code
  stands : (g : Named) (t : ℕ) → StandsIn (code_of p t) (next_access p g t)
  unfolding instruction_of
  stands g t v a e = has_write_lem (code_of p t) (thread_of g.machine t).place v a e

  module _ {g : Named} (inv : Invariant p A g) {t u : ℕ} (n : t ≢ u) (t_is : t < p.threads) (u_is : u < p.threads)
      (e : outcome p t g.machine ≡ Moved) (f : outcome p u (moved_named p t g).machine ≡ Moved)
      (m : Swaps (next_mover p A g t) (next_mover p A g u)) where
    permitted_second : Permitted p u (label_of p A g u).locks (next_access p g u)
    permitted_second =
        subst (λ (r : Row Label). Permitted p u r.label.locks (access_of r.instruction)) (row_other g (Ne-symm n))
        (permitted p A (invariant_moved p A inv t t_is e) u u_is f)

    waits_second : waits (next_access p g u) (locks_after (next_access p g t) t g.machine.locks) ≡ false
    unfolding moved_named moved move_by
    waits_second =
        ap (λ (j : Instruction). waits (access_of j) (locks_after (next_access p g t) t g.machine.locks))
        (sym (instruction_other p (next_instruction p g t) g.machine (Ne-symm n)))
        ∙ moved_waits p u (moved_named p t g).machine f

    apart : Independent (next_access p g t) (next_access p g u)
    unfolding mover_of
    apart =
        independent p n (inv.owns t) (inv.owns u) (next_access p g t) (next_access p g u)
        (permitted p A inv t t_is e) permitted_second (access_below p A inv t t_is e) (stands g t) (stands g u)
        (moved_waits p t g.machine e) waits_second m

    swap : Swapped p g t u
    unfolding moved_named moved
    swap = record {
      first_moves = sym (outcome_other p (next_instruction p g t) g.machine (Ne-symm n) (apart.second_waits t g.machine.locks)) ∙ f;
      second_moves = outcome_other p (next_instruction p g u) g.machine n (apart.first_waits u g.machine.locks) ∙ e;
      same_end = moved_named_comm p g n apart;
    }

  -- two moves of the trace, seen from where the first starts
  module _ {g h v : Named} {x y : Move} (X : Moving p A g x h) (Y : Moving p A h y v) (n : x.thread ≢ y.thread) where
    after_first : Moving p A (moved_named p x.thread g) y v
    after_first = subst (λ (k : Named). Moving p A k y v) X.ends Y

    swappable : Swaps (next_mover p A g x.thread) (next_mover p A g y.thread)
        → Swappable (machine_moves p A) g x y v
    swappable m =
        let w = swap X.invariant n X.is_thread Y.is_thread X.moved after_first.moved m in (
          moved_named p y.thread g,
          record {
            invariant = X.invariant;
            is_thread = Y.is_thread;
            moved = w.first_moves;
            named = after_first.named ∙ move_other p g x.thread y.thread (Ne-symm n);
            ends = refl;
          },
          record {
            invariant = invariant_moved p A X.invariant y.thread Y.is_thread w.first_moves;
            is_thread = X.is_thread;
            moved = w.second_moves;
            named = X.named ∙ sym (move_other p g y.thread x.thread n);
            ends = after_first.ends ∙ w.same_end;
          },
        )

  -- ---- the laws

  -- the move's ends
  goes_move : {g h : Named} {x : Move} → Moving p A g x h
      → Goes (next_mover p A g x.thread) (label_of p A g x.thread).prefix (label_of p A h x.thread).prefix
  goes_move {g} {x} X =
      subst (λ (k : Named). Goes (next_mover p A g x.thread) (label_of p A g x.thread).prefix (label_of p A k x.thread).prefix)
      (sym X.ends) (goes p A X.invariant x.thread X.is_thread X.moved)

  -- a thread that is still inside has not finished its block
  block_unfinished : {g : Named} → Invariant p A g → (t : ℕ) → t < p.threads → outcome p t g.machine ≡ Moved
      → status_of (label_of p A (moved_named p t g) t).prefix ≢ outside → block_of (moved_named p t g) t ≡ block_of g t
  unfolding block_of moved_named
  block_unfinished {g} inv t b e n =
      let inner = inside_row (invariant_moved p A inv t b e) t ∙ not_outside_inner (label_of p A (moved_named p t g) t).prefix n in
      ap (λ (k : ℕ). record { thread = t; number = k })
      (get_or-set_same g.finished t _ 0 (in_finished p A inv t b e) ∙ ap (λ (b : Bool). finished_after b (get_or g.finished t 0)) inner)

  unmoved : {g h : Named} {x : Move} {t : ℕ} → Moving p A g x h → t ≢ x.thread → Unmoved (machine_moves p A) t g h
  unmoved {g} {h} {x} {t} X n = (
    ap (λ (k : Named). status_of (label_of p A k t).prefix) X.ends ∙ ap (λ (y : Label). status_of y.prefix) (label_other p A g x.thread t n),
    ap (λ (k : Named). block_of k t) X.ends ∙ block_other p g x.thread t n,
  )

  -- a move belongs to the block that its thread is in, or to the next
  named_block : {g h : Named} {x : Move} → Moving p A g x h → block_name x ≡ block_of g x.thread
  unfolding block_name block_of move_of
  named_block X = ap block_name X.named

  ends_inside : {g h : Named} {x : Move} → Moving p A g x h → status_of (label_of p A h x.thread).prefix ≢ outside
      → block_of h x.thread ≡ block_name x
  ends_inside {g} {h} {x} X n =
      ap (λ (k : Named). block_of k x.thread) X.ends
      ∙ block_unfinished X.invariant x.thread X.is_thread X.moved (subst (λ (k : Named). status_of (label_of p A k x.thread).prefix ≢ outside) X.ends n)
      ∙ sym (named_block X)

  -- the second move's row is the one that its thread stands at before the first
  row_second : {g h : Named} {x : Move} {t : ℕ} → Moving p A g x h → t ≢ x.thread → row_of p A h t ≡ row_of p A g t
  row_second {g} {t} X n = ap (λ (k : Named). row_of p A k t) X.ends ∙ row_other g n

  pub machine_movers : Movers (machine_moves p A)
  machine_movers = record {
    others = λ {s} {u} {m} {t} X n. unmoved X n;
    starts_in = λ {s} {u} {m} X n. named_block X;
    ends_in = λ {s} {u} {m} X n. ends_inside X n;
    committed = λ {s} {u} {m} X e. goes_committed (goes_move X) e;
    right_mover = λ {s} {u} {v} {x} {y} X Y n e. swappable X Y n (right_first (goes_right (goes_move X) e));
    left_mover = λ {s} {u} {v} {x} {y} X Y n e. swappable X Y (Ne-symm n)
        (left_second (subst (λ (r : Row Label). T (at_most (mover_at p y.thread r) Left)) (row_second X n)
        (goes_left (goes_move Y) ((unmoved X n).0 ∙ e))));
  }
