-- `letter_at` meets its contract: its word has a byte or more. Assumes nothing.
use Rattle.std.proofs.Common.{ap, length, arith}
use Rattle.printout.proofs.Stored.{said_some}
use Rattle.printout.proofs.placed.letter_at.Goals as goal

pub word_at-requires : goal.word_at-requires
word_at-requires c = (said_some _ _ _ c.letter.ensures.word, omega (arith, c.letter.ensures.room, ap length c.new-line.ensures))
