-- Two moves with independent accesses commute. Assumes nothing.
--     move_by_comm, moved_named_comm                   in either order they lead to the same state
--     instruction_other, outcome_other, inside_other   what the other thread's move leaves: the instruction, whether it moves, its block
--     move_other, block_other                          and the names of its next move and its block
use Rattle.std.proofs.Common.{ℕ, ◌≡◌, sym, ap, ap₂, ◌∙◌, ◌≢◌, Bool, length, get_or, set, get_or-set_other, eqb}
use Rattle.std.proofs.Math.Logic.{Ne-symm}
use Rattle.std.proofs.Math.Seq.{set_comm}
use Rattle.machine.specs.Block.{covered_from, inside}
use Rattle.machine.specs.State.{State, thread_of}
use Rattle.program.specs.View.{access_of}
use Rattle.machine.specs.Step.{waits, variables_after, locks_after, thread_after, instruction_of, move_by, outcome}
use Rattle.machine.specs.declared.thread.Outcome.TheVariants.{Moved, Waiting, Idle}
use Rattle.machine.specs.declared.thread.Thread.{Thread}
use Rattle.program.specs.Choice.{choose}
use Rattle.program.specs.Layout.{Program, code_of}
use Rattle.program.specs.declared.instruction.Instruction.{Instruction}
use Rattle.program.specs.declared.instruction.Instruction.TheVariants.{End}
use Rattle.soundness.specs.Internal.Access.{Independent}
use Rattle.soundness.specs.Internal.Instance.{next_instruction, next_access, block_of}
use Rattle.soundness.specs.Naming.{Named, moved, moved_named, move_of, finished_after}
use Rattle.soundness.proofs.Move.{thread_moved, thread_other}

-- ---- of two threads of the machine

-- the thread that moves second moves as it would first
thread_second : (i j : Instruction) {t u : ℕ} (s : State) → t ≢ u → Independent (access_of i) (access_of j) → thread_moved j u (move_by i t s) ≡ thread_moved j u s
unfolding move_by
thread_second i j {t} {u} s n d = ap₂ (thread_after j) (d.second_reads (thread_of s t).registers s.variables) (thread_other i t s u (Ne-symm n))

thread_first : (i j : Instruction) {t u : ℕ} (s : State) → t ≢ u → Independent (access_of i) (access_of j) → thread_moved i t (move_by j u s) ≡ thread_moved i t s
unfolding move_by
thread_first i j {t} {u} s n d = ap₂ (thread_after i) (d.first_reads (thread_of s u).registers s.variables) (thread_other j u s t n)

pub move_by_comm : (i j : Instruction) {t u : ℕ} (s : State) → t ≢ u → Independent (access_of i) (access_of j)
    → move_by j u (move_by i t s) ≡ move_by i t (move_by j u s)
unfolding move_by
move_by_comm i j {t} {u} s n d =
    let one = move_by i t s in
    let two = move_by j u s in
    let variables =
    ap (λ (th : Thread). variables_after (access_of j) th.registers one.variables) (thread_other i t s u (Ne-symm n))
    ∙ d.variables (thread_of s t).registers (thread_of s u).registers s.variables
    ∙ sym (ap (λ (th : Thread). variables_after (access_of i) th.registers two.variables) (thread_other j u s t n)) in
    let threads =
    ap (set one.threads u) (thread_second i j s n d)
    ∙ set_comm s.threads t u (thread_moved i t s) (thread_moved j u s) n
    ∙ sym (ap (set two.threads t) (thread_first i j s n d)) in
    λ k. record { variables = variables k; locks = d.locks t u s.locks k; threads = threads k }

-- whether the other thread can move stays the same
module _ (p : Program) (i : Instruction) {t u : ℕ} (s : State) (n : u ≢ t) where
  pub instruction_other : instruction_of p u (move_by i t s) ≡ instruction_of p u s
  unfolding instruction_of
  instruction_other = ap (λ (th : Thread). get_or (code_of p u) th.place End) (thread_other i t s u n)

  pub outcome_other : (let x = access_of (instruction_of p u s) in waits x (locks_after (access_of i) t s.locks) ≡ waits x s.locks)
      → outcome p u (move_by i t s) ≡ outcome p u s
  unfolding outcome move_by
  outcome_other e =
      ap₂ (λ (a b : Bool). choose a Idle (choose b Waiting Moved))
      (ap (λ (th : Thread). eqb th.place (length (code_of p u))) (thread_other i t s u n))
      (ap (λ (j : Instruction). waits (access_of j) (locks_after (access_of i) t s.locks)) instruction_other ∙ e)

  pub inside_other : inside p (move_by i t s) u ≡ inside p s u
  unfolding inside
  inside_other = ap (λ (th : Thread). covered_from 0 (code_of p u) th.place) (thread_other i t s u n)

-- ---- with the blocks finished

-- the other thread's next move, and its block
pub move_other : (p : Program) (g : Named) (t u : ℕ) → u ≢ t → move_of (moved_named p t g) u ≡ move_of g u
unfolding move_of moved_named moved
move_other p g t u n =
    ap₂ (λ (k : ℕ) (th : Thread). record { thread = u; number = k; before = th })
    (get_or-set_other g.finished t u _ 0 n) (thread_other (next_instruction p g t) t g.machine u n)

pub block_other : (p : Program) (g : Named) (t u : ℕ) → u ≢ t → block_of (moved_named p t g) u ≡ block_of g u
unfolding block_of moved_named
block_other p g t u n = ap (λ (k : ℕ). record { thread = u; number = k }) (get_or-set_other g.finished t u _ 0 n)

-- the count of the thread that moves later is as if it moved at once
finished_later : (p : Program) (g : Named) {t u : ℕ} → t ≢ u → moved p u (moved p t g.machine) ≡ moved p t (moved p u g.machine)
    → finished_after (inside p (moved p u (moved p t g.machine)) u) (get_or (moved_named p t g).finished u 0)
    ≡ finished_after (inside p (moved p u g.machine) u) (get_or g.finished u 0)
unfolding moved moved_named
finished_later p g {t} {u} n e =
    let two = moved p u g.machine in
    ap₂ finished_after
    (ap (λ (s : State). inside p s u) e ∙ inside_other p (instruction_of p t two) two (Ne-symm n))
    (get_or-set_other g.finished t u _ 0 (Ne-symm n))

module _ (p : Program) (g : Named) {t u : ℕ} (n : t ≢ u)
    (d : Independent (next_access p g t) (next_access p g u)) where
  moved_comm : moved p u (moved p t g.machine) ≡ moved p t (moved p u g.machine)
  unfolding moved
  moved_comm =
      let s = g.machine in
      let i = instruction_of p t s in
      let j = instruction_of p u s in
      ap (λ (k : Instruction). move_by k u (move_by i t s)) (instruction_other p i s (Ne-symm n))
      ∙ move_by_comm i j s n d
      ∙ sym (ap (λ (k : Instruction). move_by k t (move_by j u s)) (instruction_other p j s n))

  pub moved_named_comm : moved_named p u (moved_named p t g) ≡ moved_named p t (moved_named p u g)
  unfolding moved_named
  moved_named_comm =
      let F = g.finished in
      let x = finished_after (inside p (moved p t g.machine) t) (get_or F t 0) in
      let y = finished_after (inside p (moved p u g.machine) u) (get_or F u 0) in
      let finished =
      ap (set (set F t x) u) (finished_later p g n moved_comm)
      ∙ set_comm F t u x y n
      ∙ sym (ap (set (set F u y) t) (finished_later p g (Ne-symm n) (sym moved_comm))) in
      λ k. record { machine = moved_comm k; finished = finished k }
