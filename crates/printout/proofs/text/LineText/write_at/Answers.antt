-- `write_at` meets its contract: a part of the buffer is copied over. Assumes nothing.
use Rattle.std.proofs.Common.{◌∙◌, ap, ◌+◌, arith}
use Rattle.printout.proofs.Stored.{laid_part}
use Rattle.printout.proofs.text.LineText.write_at.Goals as goal

pub returns : goal.returns
returns c =
    let a = c.args in
    laid_part a.self.now.bytes.items _ a.out.now a.at _ _ (c.copy_from_slice.ensures.after ∙ c.as_slice.ensures.value) (omega (arith, c.len.ensures.value)) (ap (λ n. a.at + n) c.len.ensures.value) (omega (arith, c.len.ensures.value))
