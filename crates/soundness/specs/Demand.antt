-- Demand 3 (the standard, "What is promised"): "one claim about a whole list, not one for each entry: it compares the whole end states
-- of the given and the uninterrupted list, and each thread's moved count". Also promised of the uninterrupted list: each thread makes
-- its moves of the given list in their order, and the blocks keep their turn.
use Rattle.std.specs.Prelude.{ℕ, ◌≡◌, List, Ok}
use Rattle.judge.specs.Acceptance.{Accepted, accept}
use Rattle.machine.specs.Block.{NobodyInside, Uninterrupted}
use Rattle.machine.specs.Run.{Entries, counts_of, run}
use Rattle.program.specs.Layout.{Program}
use Rattle.soundness.specs.Naming.{BlockName, moves, moves_of, Precedes}

-- a list of thread numbers of the program
abbrev pub ThreadsOf : Program → List ℕ → Type 0
ThreadsOf p list = Entries p.threads list

-- an uninterrupted list of its threads
pub record Serialized (p : Program) (list : List ℕ) : Type 0 where
  pub serial : List ℕ
  pub threads : ThreadsOf p serial
  pub uninterrupted : Uninterrupted p serial
  -- that ends in the same variables, locks and thread states "with the same number of moves of each thread"
  pub same_state : (run p serial).state ≡ (run p list).state
  pub same_moved : (t : ℕ) → (counts_of (run p serial).counts t).moved ≡ (counts_of (run p list).counts t).moved
  -- "in which each thread makes its moves of the given list in their order", "from the same place with the same registers"
  pub same_moves : (t : ℕ) → moves_of t (moves p serial) ≡ moves_of t (moves p list)
  -- "an outermost block whose last move comes before another's first in the given list does so in the new one"
  pub same_order : (a b : BlockName) → Precedes a b (moves p list) → Precedes a b (moves p serial)

-- for every accepted file and every list of its thread numbers run from the start: if after the whole list no thread stands inside a
-- block, there is such a list
unfoldable pub Demand3 : List ℕ → Type 0
Demand3 file =
    (a : Accepted) → accept file ≡ Ok a
    → (list : List ℕ) → ThreadsOf a.program list → NobodyInside a.program (run a.program list).state
    → Serialized a.program list
