-- `instruction_at` meets its contract. Assumes nothing.
use mathlib.Core.Path.{◌∙◌}
use Rattle.program.specs.Instruction.{decode_at}
use Rattle.program.proofs.Decode.{row_instruction, row_registers}
use Rattle.program.proofs.instruction.instruction_at.Goals as goal

pub returns : goal.returns
unfolding decode_at
returns c locks variables valid = (
  c.instruction.ensures ∙ row_instruction locks variables _ _ _ _ valid c.of.result c.of.ensures,
  rw c.instruction.ensures (row_registers locks variables _ _ _ _ valid c.of.result c.of.ensures),
)
