-- `instruction_line` meets its contract. Assumes nothing.
use Rattle.std.proofs.Common.{[], ◌∷◌, append_assoc}
use Rattle.printout.specs.Text.{ascii}
use Rattle.printout.specs.Line.{instruction_line, instruction_words, letter}
use Rattle.printout.specs.Internal.Writing.{blanked}
use Rattle.printout.proofs.Said.{blanked_append}
use Rattle.printout.proofs.line.instruction_line.Goals as goal

pub returns : goal.returns
unfolding blanked ascii instruction_line
returns c = c.write.ensures _ _ (simp (c.letter.ensures.word, c.instruction.ensures.words, c.number.ensures.word, c.raw-4.ensures.word, c.raw-3.ensures.word, c.raw-2.ensures.word, c.raw.ensures.word, c.new-line.ensures, blanked_append (instruction_words c.args.i) (letter c.args.byte ∷ []), append_assoc))
