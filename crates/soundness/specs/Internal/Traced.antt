-- A list of thread numbers as a trace, and back. Only the proof of demand 3 speaks of it.
--     run_named            where a list leads to
--     Traced               a trace under the invariant
--     threads_of, Listed   the threads that make the moves, as an uninterrupted list
use Rattle.std.specs.Prelude.{ℕ, ◌≡◌, List, [], ◌∷◌, map}
use Rattle.machine.specs.Block.{UninterruptedFrom}
use Rattle.program.specs.Layout.{Program}
use Rattle.reduction.specs.Reduction.{Trace}
use Rattle.soundness.specs.Demand.{ThreadsOf}
use Rattle.soundness.specs.Internal.Instance.{ThreadsAnnotated, Invariant, machine_moves}
use Rattle.soundness.specs.Naming.{Move, Named, step_named, moves_from}

-- where a list leads to
unfoldable pub run_named : Program → Named → List ℕ → Named
run_named p g [] = g
run_named p g (t ∷ ts) = run_named p (step_named p t g) ts

-- a trace to where the invariant still holds
pub record Traced (p : Program) (A : ThreadsAnnotated p) (g : Named) (l : List Move) (v : Named) : Type 0 where
  pub trace : Trace (machine_moves p A) g l v
  pub invariant : Invariant p A v

-- the threads that make the moves, one after the other
abbrev pub threads_of : List Move → List ℕ
threads_of l = map (λ (m : Move). m.thread) l

-- they are an uninterrupted list that makes these moves and leads to v
pub record Listed (p : Program) (l : List Move) (g v : Named) : Type 0 where
  pub threads : ThreadsOf p (threads_of l)
  pub uninterrupted : UninterruptedFrom p g.machine (threads_of l)
  pub same_end : run_named p g (threads_of l) ≡ v
  pub same_moves : moves_from p g (threads_of l) ≡ l
