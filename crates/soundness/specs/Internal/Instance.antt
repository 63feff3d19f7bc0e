-- The step machine as an instance of `Moves`: states with the blocks finished, moves with their blocks, under the invariant that
-- each thread holds the locks that its place says. Only the proof of demand 3 speaks of it.
--     Annotated, ThreadsAnnotated   code with its labels; every thread's
--     block_of                      the block that a thread is in
--     Swapped                       two moves in the other order
--     next_instruction, next_access, place_of, label_of, row_of, next_mover
--                                   where a thread stands, and what it does next
--     Invariant                     what holds between moves
--     Moving, machine_moves         a move, and the instance
use Rattle.std.specs.Prelude.{ℕ, ◌≤◌, ◌<◌, ◌≡◌, ◌||◌, List, length, get_or}
use Rattle.atomicity.specs.declared.Atomicity.{Atomicity}
use Rattle.judge.specs.LockSet.{empty}
use Rattle.judge.specs.declared.lock_set.LockSet.{LockSet}
use Rattle.machine.specs.Block.{covered_from}
use Rattle.machine.specs.State.{thread_of}
use Rattle.program.specs.View.{Access, access_of}
use Rattle.machine.specs.Step.{instruction_of, outcome}
use Rattle.machine.specs.declared.thread.Outcome.TheVariants.{Moved}
use Rattle.program.specs.Layout.{Program, code_of}
use Rattle.program.specs.declared.instruction.Instruction.{Instruction}
use Rattle.program.specs.declared.instruction.Instruction.TheVariants.{End}
use Rattle.reduction.specs.Moves.{Moves}
use Rattle.soundness.specs.Internal.Access.{AccessesBelow, Owns}
use Rattle.soundness.specs.Internal.Flow.{Label, label, mover_at, Follows, Leads}
use Rattle.soundness.specs.Internal.Labelled.{Row, row, MovesFrom}
use Rattle.soundness.specs.Naming.{BlockName, Move, Named, block_name, move_of, moved_named}
use Rattle.soundness.specs.Internal.Prefix.{Prefix, outer, behind, Proper, is_inner, status_of}

-- code of thread t that is begun with the lock set `start` and with any prefix: its labels, and that every move follows
pub record Annotated (p : Program) (t : ℕ) (start : LockSet) (code : List Instruction) : Type 0 where
  pub atomicity : Atomicity
  pub end_locks : LockSet
  -- the label of a place, by the prefix that the code is begun with
  pub label_from : Prefix → ℕ → Label
  pub begun : (m : Prefix) → Proper (behind m atomicity) → Leads start m (label_from m 0)
  pub flows : (m : Prefix) → Proper (behind m atomicity) → (q : ℕ) → q < length code
      → MovesFrom (Follows p t) (label_from m) (length code) (row (get_or code q End) (label_from m q)) q
  -- behind the code
  pub past : (m : Prefix) → label_from m (length code) ≡ label end_locks (behind m atomicity)
  -- inside a block: the one that the code is begun in, or one of its own
  pub covered : (m : Prefix) (q : ℕ) → (is_inner m || covered_from 0 code q) ≡ is_inner (label_from m q).prefix
  pub accesses : AccessesBelow p code

-- every thread's code is, begun with no locks held
abbrev pub ThreadsAnnotated : Program → Type 0
ThreadsAnnotated p = (t : ℕ) → Annotated p t empty (code_of p t)

-- the block that thread t is in, or the next one
unfoldable pub block_of : Named → ℕ → BlockName
block_of g t = record { thread = t; number = get_or g.finished t 0 }

-- the moves of t and then of u, in the other order
pub record Swapped (p : Program) (g : Named) (t u : ℕ) : Type 0 where
  pub first_moves : outcome p u g.machine ≡ Moved
  pub second_moves : outcome p t (moved_named p u g).machine ≡ Moved
  pub same_end : moved_named p u (moved_named p t g) ≡ moved_named p t (moved_named p u g)

-- the instruction that thread t stands at, and its shared access
abbrev pub next_instruction : Program → Named → ℕ → Instruction
next_instruction p g t = instruction_of p t g.machine

abbrev pub next_access : Program → Named → ℕ → Access
next_access p g t = access_of (next_instruction p g t)

module _ (p : Program) (A : ThreadsAnnotated p) where
  -- the place of thread t, its label (a thread begins outside every block), its row, and what its next move is
  abbrev pub place_of : Named → ℕ → ℕ
  place_of g t = (thread_of g.machine t).place

  abbrev pub label_of : Named → ℕ → Label
  label_of g t = (A t).label_from outer (place_of g t)

  abbrev pub row_of : Named → ℕ → Row Label
  row_of g t = row (next_instruction p g t) (label_of g t)

  abbrev pub next_mover : Named → ℕ → Atomicity
  next_mover g t = mover_at p t (row_of g t)

  pub record Invariant (g : Named) : Type 0 where
    pub owns : (t : ℕ) → Owns t (label_of g t).locks g.machine.locks
    pub places : (t : ℕ) → place_of g t ≤ length (code_of p t)
    pub lock_count : length g.machine.locks ≡ p.locks
    pub thread_count : length g.machine.threads ≡ p.threads
    pub finished_count : length g.finished ≡ p.threads

  -- the move m leads from g to u
  pub record Moving (g : Named) (m : Move) (u : Named) : Type 0 where
    pub invariant : Invariant g
    pub is_thread : m.thread < p.threads
    pub moved : outcome p m.thread g.machine ≡ Moved
    pub named : m ≡ move_of g m.thread
    pub ends : u ≡ moved_named p m.thread g

  abbrev pub machine_moves : Moves
  machine_moves = record {
    State = Named;
    Move = Move;
    Block = BlockName;
    thread = λ m. m.thread;
    block = block_name;
    step = Moving;
    status = λ g t. status_of (label_of g t).prefix;
    block_at = block_of;
  }
