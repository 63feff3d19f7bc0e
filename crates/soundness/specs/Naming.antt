-- The moves that a list makes (the standard, "The step machine"): who moves, from which place with which registers, and in which block;
-- each thread's moves, and which block is over when another begins ("What is promised"). A block is named by its thread and
-- how many blocks that thread had finished before. "The move of the ATOMIC itself is its block's first. Any other move outside every
-- block counts as a block of one".
use Rattle.std.specs.Prelude.{ℕ, suc, ◌≡◌, Bool, true, false, get_or, set, replicate, List, [], ◌∷◌}
use mathlib.Core.List.{filter}
use Rattle.std.proofs.Math.Decide.{ℕ_discrete}
use Rattle.machine.specs.Block.{inside}
use Rattle.machine.specs.State.{State, start, thread_of}
use Rattle.machine.specs.Step.{instruction_of, move_by, outcome, after}
use Rattle.machine.specs.declared.thread.Thread.{Thread}
use Rattle.program.specs.Layout.{Program}
use Rattle.reduction.specs.Sequence.{AllPairs}

pub record BlockName : Type 0 where
  pub thread : ℕ
  pub number : ℕ

pub record Move : Type 0 where
  pub thread : ℕ
  pub number : ℕ
  pub before : Thread

unfoldable pub block_name : Move → BlockName
block_name m = record { thread = m.thread; number = m.number }

-- a state, and how many blocks each thread has finished
pub record Named : Type 0 where
  pub machine : State
  pub finished : List ℕ

unfoldable pub named_start : Program → Named
named_start p = record { machine = start p; finished = replicate p.threads 0 }

-- the move that thread t makes next
unfoldable pub move_of : Named → ℕ → Move
move_of g t = record { thread = t; number = get_or g.finished t 0; before = thread_of g.machine t }

-- the state after it
unfoldable pub moved : Program → ℕ → State → State
moved p t s = move_by (instruction_of p t s) t s

-- a block that the thread still stands in is not finished
abbrev pub finished_after : (inside : Bool) → ℕ → ℕ
finished_after true n = n
finished_after false n = suc n

unfoldable pub moved_named : Program → ℕ → Named → Named
moved_named p t g = record {
  machine = moved p t g.machine;
  finished = set g.finished t (finished_after (inside p (moved p t g.machine) t) (get_or g.finished t 0));
}

-- an entry of the list that does not move changes nothing
abbrev pub step_named : Program → ℕ → Named → Named
step_named p t g = after (outcome p t g.machine) g (moved_named p t g)

-- the moves of a list, in order
unfoldable pub moves_from : Program → Named → List ℕ → List Move
moves_from p g [] = []
moves_from p g (t ∷ ts) =
    let later = moves_from p (step_named p t g) ts in
    after (outcome p t g.machine) later (move_of g t ∷ later)

unfoldable pub moves : Program → List ℕ → List Move
moves p ts = moves_from p (named_start p) ts

-- the moves of thread t, in order
abbrev pub moves_of : ℕ → List Move → List Move
moves_of t = filter (λ (m : Move). ℕ_discrete m.thread t)

-- no move of b comes before one of a: the last move of block a comes before the first of block b
abbrev pub Precedes : BlockName → BlockName → List Move → Type 0
Precedes a b = AllPairs (λ (x y : Move). ¬ ((block_name x ≡ b) × (block_name y ≡ a)))
