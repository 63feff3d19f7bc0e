-- `numbered` meets its contract: the table is computed. Assumes nothing.
use mathlib.Core.Path.{refl}
use borrow.Author.Tests.{lt-ltb}
use native.Mathlib.Omega.{arith}
use Rattle.program.specs.Internal.Rows.{row_count}
use Rattle.program.specs.declared.op_codes.TheConstants.{IN_ORDER}
use Rattle.program.proofs.Decode.{rows_in_order}
use Rattle.program.proofs.instruction.Row.numbered.Goals as goal

-- `IN_ORDER[n as usize]`
pub returns : goal.returns
returns c =
    let n = c.args.n in
    rw (lt-ltb n row_count (omega arith)) (rows_in_order n row_count (omega arith) IN_ORDER refl)
