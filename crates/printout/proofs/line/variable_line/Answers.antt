-- `variable_line` meets its contract. Assumes nothing.
use Rattle.std.proofs.Common.{[], ◌∷◌, append_assoc}
use Rattle.printout.specs.Text.{ascii, decimal}
use Rattle.printout.specs.Line.{numbered, kind_words}
use Rattle.printout.specs.Internal.Writing.{lettered}
use Rattle.printout.specs.Internal.Writing.{blanked}
use Rattle.printout.proofs.Said.{blanked_append}
use Rattle.printout.proofs.line.variable_line.Goals as goal

pub returns : goal.returns
unfolding blanked ascii numbered lettered
returns c = c.write.ensures _ _ (simp (c.number.ensures.word, c.kind.ensures.words, c.lettered.ensures.word, c.raw-3.ensures.word, c.raw-2.ensures.word, c.raw.ensures.word, c.new-line.ensures, blanked_append (kind_words c.args.kind) (decimal c.args.initial ∷ []), append_assoc))
