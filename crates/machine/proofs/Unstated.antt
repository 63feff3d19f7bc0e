-- The step machine asks for no statement: a program with its statements taken out runs alike, judged or not. Assumes nothing.
--     move_unstated, outcome_unstated   a step
--     run_unstated                      a list
use Rattle.std.proofs.Common.{◌≡◌, ℕ, List, [], ◌∷◌, refl}
use lib.ListN.{length-map, get_or-map}
use Rattle.program.proofs.Unstated.{same_unstated, form_unstated, access_unstated, code_unstated}
use Rattle.program.specs.Layout.{Program, code_of}
use Rattle.program.specs.Internal.Unstated.{unstated, unstated_program}
use Rattle.program.specs.declared.instruction.Instruction.{Instruction}
use Rattle.program.specs.declared.instruction.Instruction.TheVariants.{End}
use Rattle.machine.specs.Run.{Run, run_from, run}
use Rattle.machine.specs.State.{State, start, thread_of}
use Rattle.machine.specs.Step.{result_of, registers_after, place_after, thread_after, instruction_of, move_by, outcome, step}
use Rattle.machine.proofs.Entry.{after_entry}

-- ---- an instruction

result_unstated : (i : Instruction) (x : ℕ) (r : List ℕ) → result_of (unstated i) x r ≡ result_of i x r
unfolding result_of
result_unstated i x r = same_unstated (λ (j : Instruction). result_of j x r) (λ a n. refl) i

move_unstated : (i : Instruction) (t : ℕ) (s : State) → move_by (unstated i) t s ≡ move_by i t s
unfolding move_by thread_after place_after registers_after
move_unstated i t s = rw (access_unstated i, form_unstated i, result_unstated i)

-- ---- a step, from any state

module _ (p : Program) (t : ℕ) (s : State) where
  instruction_unstated : instruction_of (unstated_program p) t s ≡ unstated (instruction_of p t s)
  unfolding instruction_of unstated
  instruction_unstated = rw (code_unstated p t) (get_or-map unstated (code_of p t) (thread_of s t).place End)

  outcome_unstated : outcome (unstated_program p) t s ≡ outcome p t s
  unfolding outcome
  outcome_unstated =
      rw (instruction_unstated, access_unstated (instruction_of p t s), code_unstated p t, length-map (code_of p t) unstated)

  step_unstated : step (unstated_program p) t s ≡ step p t s
  unfolding step
  step_unstated = rw (outcome_unstated, instruction_unstated, move_unstated (instruction_of p t s) t s)

-- ---- a list

from_unstated : (p : Program) (r : Run) (list : List ℕ) → run_from (unstated_program p) r list ≡ run_from p r list
unfolding run_from
from_unstated p r [] = refl
from_unstated p r (t ∷ ts) = rw (outcome_unstated p t r.state, step_unstated p t r.state) (from_unstated p (after_entry p r t) ts)

pub run_unstated : (p : Program) (list : List ℕ) → run (unstated_program p) list ≡ run p list
unfolding run start unstated_program
run_unstated p list = from_unstated p _ list
