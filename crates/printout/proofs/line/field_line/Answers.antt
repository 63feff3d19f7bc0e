-- `field_line` meets its contract. Assumes nothing.
use Rattle.std.proofs.Common.{append_assoc}
use Rattle.printout.specs.Text.{ascii}
use Rattle.printout.specs.Internal.Writing.{blanked}
use Rattle.printout.proofs.line.field_line.Goals as goal

pub returns : goal.returns
unfolding blanked ascii
returns c = c.write.ensures _ _ (simp (c.number.ensures.word, c.name.ensures.word, c.raw.ensures.word, c.new-line.ensures, append_assoc))
