-- `refusal_line` meets its contract. Assumes nothing.
use Rattle.std.proofs.Common.{append_assoc}
use Rattle.printout.specs.Text.{ascii}
use Rattle.printout.specs.Line.{refusal_line}
use Rattle.printout.specs.Internal.Writing.{blanked}
use Rattle.printout.proofs.line.refusal_line.Goals as goal

pub returns : goal.returns
unfolding blanked ascii refusal_line
returns c = c.write.ensures _ _ (simp (c.number-3.ensures.word, c.name-2.ensures.word, c.number-2.ensures.word, c.name.ensures.word, c.new-line.ensures, c.number.ensures.value, c.detail.ensures, append_assoc))
