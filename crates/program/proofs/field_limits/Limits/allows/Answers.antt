-- `allows` meets its contract. Assumes nothing.
use native.Mathlib.Omega.{arith}
use Rattle.program.proofs.Decode.{fits_valid}
use Rattle.program.proofs.field_limits.Limits.allows.Goals as goal

pub returns : goal.returns
returns c op e =
    let x = c.args in
    rw (c.of_row-limits.ensures, e, c.from.ensures, c.from-2.ensures, c.from-3.ensures) (fits_valid x.self.now.locks x.self.now.variables op x.a x.b x.c (omega arith) (omega arith) (omega arith))
