-- `mulh` meets its contract: its four steps are the definition's. Assumes nothing.
use Rattle.std.proofs.Common.{refl, rules, w32, w64, FitsSigned}
use Rattle.std.proofs.lemmas.Int.{to_z-of_z}
use Rattle.machine.specs.Signed.{mulh}
use Rattle.machine.proofs.Nearest.{nearest_exactly}
use Rattle.machine.proofs.signed.mulh.Goals as goal

-- `register_of(in_span(rounded_hundredth(product(b, c))))`
pub returns : goal.returns
unfolding mulh
returns c =
    let span : FitsSigned w32 c.in_span.result = search rules in
    let quotient : FitsSigned w64 c.rounded_hundredth.result = search rules in
    let product : FitsSigned w64 c.product.result = search rules in
    rw (
      c.register_of.ensures,
      to_z-of_z w32 c.in_span.result span,
      c.in_span.ensures,
      to_z-of_z w64 c.rounded_hundredth.result quotient,
      (nearest_exactly _ c.rounded_hundredth.result).1 c.rounded_hundredth.ensures,
      to_z-of_z w64 c.product.result product,
      c.product.ensures.value,
    ) refl
