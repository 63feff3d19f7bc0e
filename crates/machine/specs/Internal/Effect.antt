-- What an instruction does, as `move_of` says it: the code then asks a Move and not the instruction.
--     Effect   an instruction's access, result and next place
--     Does     what each Move says of them, and that the arrays have what it names
--     Doing    a thread at an instruction that does a Move
--     MovedBy  what a thread is after a Move
use Rattle.std.specs.Prelude.{◌≡◌, ℕ, ◌+◌, ◌<◌, List}
use Rattle.program.specs.View.{Access, none, reads, writes, takes, gives, access_of}
use Rattle.program.specs.Limits.{lock_limit, variable_limit, register_count}
use Rattle.program.specs.declared.instruction.Instruction.{Instruction}
use Rattle.machine.specs.Step.{reg, Result, keeps, puts, result_of, place_after, thread_after}
use Rattle.machine.specs.declared.moves.Move.{Move}
use Rattle.machine.specs.declared.moves.Move.TheVariants.{Sets, Reads, Writes, Takes, Gives, Goes, Passes}
use Rattle.machine.specs.declared.thread.Thread.{Thread}

-- an instruction at a place, with these registers: its access, its result by the value that a READ finds, and where it goes
pub record Effect (i : Instruction) (r : List ℕ) (place : ℕ) (a : Access) (result : ℕ → Result) (next : ℕ) : Type 0 where
  pub access : access_of i ≡ a
  pub results : (x : ℕ) → result_of i x r ≡ result x
  pub goes : place_after i r place ≡ next

unfoldable pub Does : Instruction → (registers : List ℕ) (place : ℕ) → Move → Type 0
Does i r place (Sets a x) = Effect i r place none (λ _. puts a x) (place + 1) × (a < register_count)
Does i r place (Reads a v) = Effect i r place (reads v) (λ x. puts a x) (place + 1) × (a < register_count) × (v < variable_limit)
Does i r place (Writes v x) = (a : ℕ) × Effect i r place (writes v a) (λ _. keeps) (place + 1) × (reg r a ≡ x) × (v < variable_limit)
Does i r place (Takes k) = Effect i r place (takes k) (λ _. keeps) (place + 1) × (k < lock_limit)
Does i r place (Gives k) = Effect i r place (gives k) (λ _. keeps) (place + 1) × (k < lock_limit)
Does i r place (Goes next) = Effect i r place none (λ _. keeps) next
Does i r place Passes = Effect i r place none (λ _. keeps) (place + 1)

-- a thread at an instruction that does this
abbrev pub Doing : Move → Thread → Type 0
Doing m th = (i : Instruction) × Does i th.registers th.place m

-- a thread before and after a Move, where a READ finds this value: it is as after each instruction that does the Move there
abbrev pub MovedBy : Move → (value : ℕ) → (before after : Thread) → Type 0
MovedBy m x before after = (i : Instruction) → Does i before.registers before.place m → after ≡ thread_after i x before
