-- `of` meets its contract: the table is computed. Assumes nothing.
use mathlib.Core.Path.{refl}
use native.Mathlib.Omega.{arith}
use Rattle.program.specs.Internal.Rows.{row_of, rows_from, row_table}
use Rattle.program.specs.declared.op_codes.TheConstants.{ROWS}
use Rattle.program.proofs.Decode.{rows_numbered}
use Rattle.program.proofs.instruction.Row.of.Goals as goal

-- `ROWS[op as usize]`
pub returns : goal.returns
unfolding row_table rows_from row_of
returns c = rows_numbered c.args.op (omega arith) ROWS refl
