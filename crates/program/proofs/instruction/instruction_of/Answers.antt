-- `instruction_of` meets its contract. Assumes nothing.
use mathlib.Core.Path.{◌≡◌, ◌∙◌}
use native.Mathlib.Omega.{arith}
use Rattle.program.specs.Internal.Rows.{row_of, number_of}
use Rattle.program.proofs.Decode.{numbered_below, row_below, row_instruction, row_registers}
use Rattle.program.proofs.instruction.instruction_of.Goals as goal

pub returns : goal.returns
returns c locks variables op e valid =
    let r = c.numbered.result in
    let is_row : number_of r ≡ row_of op = numbered_below _ r c.numbered.ensures (omega (arith, e, row_below op)) ∙ e in (
      c.instruction.ensures ∙ row_instruction locks variables _ _ _ _ valid r is_row,
      rw c.instruction.ensures (row_registers locks variables _ _ _ _ valid r is_row),
    )
