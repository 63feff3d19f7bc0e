-- `digits` meets its contract: the digits of a number's tenth, then its last digit. Assumes nothing.
use Rattle.std.proofs.Common.{ap, ◌+◌, ◌/◌, ◌%◌, [], ◌∷◌, length, append_assoc, length-append, arith}
use Rattle.printout.specs.Text.{decimal}
use Rattle.printout.proofs.Digits.{decimal_large, decimal_large_length}
use Rattle.printout.proofs.text.LineText.+digits.Goals as goal

pub push-requires-2 : goal.push-requires-2
push-requires-2 t c =
    omega (
      arith,
      ap length c.digits.ensures,
      length-append c.args.self.now.bytes.items (decimal (c.args.n / 10)),
      decimal_large_length c.args.n c.if-n-lt10.false (omega (arith, c.ranges.n)),
    )

pub returns : goal.returns
returns t c =
    let n = c.args.n in
    rw (c.push-2.ensures.items, c.digits.ensures, decimal_large n c.if-n-lt10.false (omega (arith, c.ranges.n)))
    (append_assoc c.args.self.now.bytes.items (decimal (n / 10)) ((48 + n % 10) ∷ []))
