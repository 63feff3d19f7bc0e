-- `whole_line` meets its contract. Assumes nothing.
use Rattle.std.proofs.Common.{append_assoc}
use Rattle.printout.specs.Text.{ascii}
use Rattle.printout.specs.Internal.Writing.{blanked}
use Rattle.printout.proofs.line.whole_line.Goals as goal

pub returns : goal.returns
unfolding blanked ascii
returns c = c.write.ensures _ _ (simp (c.letter.ensures.word, c.number.ensures.word, c.name.ensures.word, c.new-line.ensures, append_assoc))
