-- The state as `run_list` keeps it: in arrays of the largest size, of which the first elements count.
--     thread_in        a thread, of the places and the registers of all
--     threads_in       all of them
--     state_in         the state in arrays
--     nobody           what is read where there is no thread
--     move_thread      one thread moves
--     EightRegisters   each thread has eight registers
--     EightRegisters-prop   ... in one way only: src/run.rt keeps it in a ghost field
--     Kept             what holds between two entries
--     Ended            every thread is at its code's end
use Rattle.std.specs.Prelude.{◌≡◌, ℕ, ◌<◌, ◌≤◌, List, [], ◌∷◌, length, get_or, take, slice_index, slice_index_or, slice_set}
use Rattle.std.proofs.Props.{props}
use Rattle.program.specs.View.{access_of}
use Rattle.program.specs.Limits.{lock_limit, thread_limit, variable_limit, register_count}
use Rattle.program.specs.declared.layout.Layout.{Layout}
use Rattle.program.specs.declared.instruction.Instruction.{Instruction}
use Rattle.machine.specs.State.{State}
use Rattle.machine.specs.Step.{value_read, thread_after}
use Rattle.machine.specs.declared.thread.Thread.{Thread}

-- a thread, of the places and the registers of all
abbrev pub thread_in : List ℕ → List (List ℕ) → ℕ → Thread
thread_in places registers t = record { place = slice_index places t; registers = slice_index_or registers t [] }

-- all of them
unfoldable pub threads_in : List ℕ → List (List ℕ) → List Thread
threads_in [] registers = []
threads_in (p ∷ places) [] = []
threads_in (p ∷ places) (r ∷ registers) = record { place = p; registers = r } ∷ threads_in places registers

-- the state in arrays
abbrev pub state_in : Layout → (variables locks : List ℕ) → List Thread → State
state_in l variables locks threads = record {
  variables = take l.variables variables;
  locks = take l.locks locks;
  threads = take l.threads threads;
}

-- what a read of an array of threads gives where there is none
abbrev pub nobody : Thread
nobody = record { place = 0; registers = [] }

-- one thread moves by an instruction, where the variables are these
abbrev pub move_thread : Instruction → (variables : List ℕ) (t : ℕ) → List Thread → List Thread
move_thread i variables t threads = slice_set threads t (thread_after i (value_read (access_of i) variables) (slice_index_or threads t nobody))

-- each of the eight threads has eight registers
unfoldable pub EightRegisters : List Thread → Type 0
EightRegisters threads = (t : ℕ) → t < thread_limit → length (get_or threads t nobody).registers ≡ register_count

pub EightRegisters-prop : (threads : List Thread) → IsProp (EightRegisters threads)
unfolding EightRegisters
EightRegisters-prop threads = hlevel props

-- between two entries: the arrays are as long as they were made, and each thread's place is within its code, which has so many instructions
pub record Kept (l : Layout) (counts vs ks : List ℕ) (ths : List Thread) : Type 0 where
  pub variables : length vs ≡ variable_limit
  pub locks : length ks ≡ lock_limit
  pub threads : length ths ≡ thread_limit
  pub places : (t : ℕ) → t < l.threads → (get_or ths t nobody).place ≤ slice_index counts t
  pub registers : EightRegisters ths

-- each of eight threads is at its code's end, by how many instructions each code has
unfoldable pub Ended : (counts : List ℕ) → List Thread → Type 0
Ended counts threads = (t : ℕ) → t < thread_limit → (get_or threads t nobody).place ≡ slice_index counts t
