-- What an instruction does, as `move_of` says it. Assumes nothing.
--     effect_of_lem      an instruction has its own effect
--     does_branch        what IF and WHILE do, from the register's test
--     effect_thread      the thread after an instruction of this effect
--     registers_moved    the registers after a Move
--     Accesses           what an instruction that does not wait does to what the threads share
--     accesses           ... by its access
--     thread_moved_lem   the thread's record, moved where it stands, has moved by the instruction
use Rattle.std.proofs.Common.{◌≡◌, ℕ, ◌+◌, Bool, true, false, eqb, List, get_or, set, refl, ap, ◌∙◌}
use Rattle.program.specs.View.{Access, none, access_of}
use Rattle.program.specs.Choice.{choose}
use Rattle.program.specs.declared.instruction.Instruction.{Instruction}
use Rattle.machine.specs.Step.{reg, Result, keeps, result_of, stored, branch, place_after, registers_after, thread_after, waits, value_read, variables_after, locks_after}
use Rattle.machine.specs.Internal.Effect.{Effect, Does, MovedBy}
use Rattle.machine.specs.Internal.Kept.{nobody, move_thread}
use Rattle.machine.specs.declared.moves.Move.{Move}
use Rattle.machine.specs.declared.moves.Move.TheVariants.{Goes, Passes}
use Rattle.machine.specs.declared.thread.Outcome.TheVariants.{Moved, Waiting}
use Rattle.machine.specs.declared.thread.Thread.{Thread}

pub effect_of_lem : {i : Instruction} {r : List ℕ} {place : ℕ} → Effect i r place (access_of i) (λ x. result_of i x r) (place_after i r place)
effect_of_lem = record { access = refl; results = λ x. refl; goes = refl }

-- the register's test decides
does_chosen : (i : Instruction) (r : List ℕ) (place n : ℕ) (zero : Bool)
    → Effect i r place none (λ _. keeps) (choose zero (place + n + 1) (place + 1))
    → Does i r place (choose zero (Goes (place + n + 1)) Passes)
unfolding Does
does_chosen i r place n true e = e
does_chosen i r place n false e = e

pub does_branch : (i : Instruction) (r : List ℕ) (place a n : ℕ) → Effect i r place none (λ _. keeps) (branch r a n place)
    → Does i r place (choose (eqb (reg r a) 0) (Goes (place + n + 1)) Passes)
unfolding branch
does_branch i r place a n e = does_chosen i r place n (eqb (reg r a) 0) e

pub effect_thread : {i : Instruction} {th : Thread} {a : Access} {result : ℕ → Result} {next : ℕ} → Effect i th.registers th.place a result next
    → (x : ℕ) → thread_after i x th ≡ record { place = next; registers = stored (result x) th.registers }
unfolding thread_after registers_after
effect_thread e x = rw (e.goes, e.results x)

pub registers_moved : (i : Instruction) (m : Move) (x : ℕ) (before after : Thread) {a : Access} {result : ℕ → Result} {next : ℕ} → MovedBy m x before after
    → Does i before.registers before.place m → Effect i before.registers before.place a result next
    → after.registers ≡ stored (result x) before.registers
registers_moved i m x before after h d e = ap (λ (th : Thread). th.registers) (h i d ∙ effect_thread e x)

-- an instruction that does not wait: its outcome, the variables and the locks afterwards, and the value that a READ finds
abbrev pub Accesses : Instruction → (t : ℕ) (r vs ks vs' ks' : List ℕ) (x : ℕ) → Type 0
Accesses i t r vs ks vs' ks' x =
    (Moved ≡ choose (waits (access_of i) ks) Waiting Moved)
    × (vs' ≡ variables_after (access_of i) r vs)
    × (ks' ≡ locks_after (access_of i) t ks)
    × (x ≡ value_read (access_of i) vs)

pub accesses : (i : Instruction) (t : ℕ) (r vs ks : List ℕ) {a : Access} → access_of i ≡ a → waits a ks ≡ false
    → Accesses i t r vs ks (variables_after a r vs) (locks_after a t ks) (value_read a vs)
accesses i t r vs ks e w = rw e (rw w, refl, refl, refl)

-- the thread's record, moved where it stands, has moved by the instruction
pub thread_moved_lem : (i : Instruction) (m : Move) (x t : ℕ) (vs : List ℕ) (ths ths' : List Thread) (th : Thread) → ths' ≡ ths
    → Does i (get_or ths t nobody).registers (get_or ths t nobody).place m → x ≡ value_read (access_of i) vs → MovedBy m x (get_or ths' t nobody) th
    → set ths' t th ≡ move_thread i vs t ths
thread_moved_lem i m x t vs ths ths' th e d v f = rw e (ap (set ths t) (rw v at ((rw e at f) i d)))
