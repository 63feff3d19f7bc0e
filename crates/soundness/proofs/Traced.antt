-- A list of thread numbers is a trace of the machine (`traced`), and an uninterrupted trace is an uninterrupted list (`listed`).
-- Assumes nothing.
use Rattle.std.proofs.Common.{ℕ, zero, suc, ◌<◌, arith, ◌≡◌, refl, sym, ap, ap₂, ◌∙◌, subst, List, [], ◌∷◌}
use Rattle.machine.specs.Block.{OthersOutside, UninterruptedFrom}
use Rattle.machine.specs.Run.{Entries}
use Rattle.machine.specs.State.{State}
use Rattle.machine.specs.Step.{outcome, after}
use Rattle.machine.specs.declared.thread.Outcome.{Outcome}
use Rattle.machine.specs.declared.thread.Outcome.TheVariants.{Moved, Waiting, Idle}
use Rattle.program.specs.Layout.{Program}
use Rattle.reduction.specs.Reduction.{trace_nil, trace_cons, Uninterrupted, alone_nil, alone_cons, Alone}
use Rattle.soundness.specs.Demand.{ThreadsOf}
use Rattle.soundness.specs.Internal.Instance.{ThreadsAnnotated, Invariant, machine_moves, label_of}
use Rattle.soundness.specs.Naming.{Move, Named, move_of, moved_named, step_named, moves_from}
use Rattle.soundness.specs.Internal.Traced.{Traced, Listed, threads_of, run_named}
use Rattle.soundness.proofs.Instance.{inside_row}
use Rattle.soundness.proofs.Move.{invariant_moved}
use Rattle.soundness.proofs.Naming.{step_named_lem}
use Rattle.soundness.proofs.Prefix.{outside_outer}

-- ---- thread numbers

threads_nil : (p : Program) → ThreadsOf p []
unfolding Entries
threads_nil p i h = absurd (omega arith)

threads_cons : (p : Program) (t : ℕ) (ts : List ℕ) → t < p.threads → ThreadsOf p ts → ThreadsOf p (t ∷ ts)
unfolding Entries
threads_cons p t ts b f zero h = b
threads_cons p t ts b f (suc i) h = f i (omega arith)

module _ (p : Program) (A : ThreadsAnnotated p) where
  -- ---- from a list to a trace

  -- one entry, by its outcome
  entry : (t : ℕ) (ts : List ℕ) {g : Named} → t < p.threads → Invariant p A g → (o : Outcome) → outcome p t g.machine ≡ o
      → ((h : Named) → Invariant p A h → Traced p A h (moves_from p h ts) (run_named p h ts))
      → (let h = after o g (moved_named p t g) in Traced p A g (after o (moves_from p h ts) (move_of g t ∷ moves_from p h ts)) (run_named p h ts))
  unfolding move_of
  entry t ts {g} b inv Moved e rest =
      let r = rest (moved_named p t g) (invariant_moved p A inv t b e) in
      record { trace = trace_cons (record { invariant = inv; is_thread = b; moved = e; named = refl; ends = refl }) r.trace; invariant = r.invariant }
  entry t ts {g} b inv Waiting e rest = rest g inv
  entry t ts {g} b inv Idle e rest = rest g inv

  pub traced : (ts : List ℕ) → ThreadsOf p ts → (g : Named) → Invariant p A g → Traced p A g (moves_from p g ts) (run_named p g ts)
  unfolding moves_from run_named Entries
  traced [] all g inv = record { trace = trace_nil; invariant = inv }
  traced (t ∷ ts) all g inv =
      entry t ts (all 0 (omega arith)) inv (outcome p t g.machine) refl (λ h k. traced ts (λ i b. all (suc i) (omega arith)) h k)

  -- ---- from a trace to a list

  -- one move
  listed_cons : {l : List Move} {g v : Named} {m : Move} → Invariant p A g → Alone (machine_moves p A) g m
      → m.thread < p.threads → outcome p m.thread g.machine ≡ Moved → m ≡ move_of g m.thread → Listed p l (moved_named p m.thread g) v → Listed p (m ∷ l) g v
  unfolding UninterruptedFrom OthersOutside run_named moves_from
  listed_cons {l} {g} {v} {m} inv alone b e named r =
      let t = m.thread in
      let ts = threads_of l in
      let next : step_named p t g ≡ moved_named p t g = ap (λ (o : Outcome). after o g (moved_named p t g)) e in
      record {
        threads = threads_cons p t ts b r.threads;
        uninterrupted = (
          e,
          (λ u c n. inside_row p A inv u ∙ outside_outer (label_of p A g u).prefix (alone u n)),
          subst (λ (s : State). UninterruptedFrom p s ts) (sym (step_named_lem p t g ∙ ap (λ (h : Named). h.machine) next)) r.uninterrupted,
        );
        same_end = ap (λ (h : Named). run_named p h ts) next ∙ r.same_end;
        same_moves =
            ap (λ (o : Outcome). after o (moves_from p (step_named p t g) ts) (move_of g t ∷ moves_from p (step_named p t g) ts)) e
            ∙ ap₂ (λ (b : Move) (k : List Move). b ∷ k) (sym named) (ap (λ (h : Named). moves_from p h ts) next ∙ r.same_moves);
      }

  pub listed : {g v : Named} {l : List Move} → Uninterrupted (machine_moves p A) g l v → Invariant p A g → Listed p l g v
  unfolding UninterruptedFrom run_named moves_from
  listed alone_nil inv = record { threads = threads_nil p; uninterrupted = tt; same_end = refl; same_moves = refl }
  listed {v} (alone_cons {m} {l} alone X rest) inv =
      let inv' = subst (Invariant p A) (sym X.ends) (invariant_moved p A inv m.thread X.is_thread X.moved) in
      listed_cons inv alone X.is_thread X.moved X.named (subst (λ (k : Named). Listed p l k v) X.ends (listed rest inv'))
