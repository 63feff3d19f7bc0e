-- `copy_at` meets its contract: a part of the buffer is copied over, and the byte behind it stored. Assumes nothing.
use Rattle.std.proofs.Common.{refl, arith}
use Rattle.printout.proofs.Stored.{laid_part, word_ended}
use Rattle.printout.proofs.placed.copy_at.Goals as goal

pub returns-clause-laid_word : goal.returns-clause-laid_word
returns-clause-laid_word c =
    let a = c.args in
    word_ended a.end (laid_part a.word.now _ a.out.now a.at _ _ c.copy_from_slice.ensures.after (omega arith) refl (omega arith))
