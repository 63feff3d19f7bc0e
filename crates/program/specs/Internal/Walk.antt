-- The walk over a code section as one pass, as the contracts of src/walk.rt cite the definitions of `Layout`.
--     first_invalid   the first instruction that is not valid
--     refused_at      nesting is broken at an offset: an instruction that is not valid comes before it
--     walked          what a walk answers
use Rattle.std.specs.Prelude.{ℕ, List, Option, None, Some, Ok, Err}
use Rattle.program.specs.Answer.{Answer}
use Rattle.program.specs.Choice.{first_bad}
use Rattle.program.specs.Instruction.{decode_at, is_valid}
use Rattle.program.specs.Limits.{instruction_size}
use Rattle.program.specs.declared.refusal.Refusal.{Refusal}
use Rattle.program.specs.declared.refusal.Refusal.TheVariants.{Instruction, Nesting}

abbrev pub first_invalid : (locks variables : ℕ) → List ℕ → (n at : ℕ) → Option ℕ
first_invalid locks variables s n at = first_bad (λ p. is_valid (decode_at locks variables s p)) instruction_size n at

-- "nesting, after all 7s of that thread"
abbrev pub refused_at : (invalid : Option ℕ) → ℕ → Refusal
refused_at (Some d) broken = Instruction d
refused_at None broken = Nesting broken

abbrev pub walked : (invalid broken : Option ℕ) → Answer Unit
walked (Some d) broken = Err (Instruction d)
walked None (Some d) = Err (Nesting d)
walked None None = Ok tt
