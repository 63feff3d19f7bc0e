-- `word_at` meets its contract: the word's blank is stored over. Assumes nothing.
use Rattle.std.proofs.Common.{refl, ap, length, arith}
use Rattle.printout.proofs.Stored.{blanked_one, end_replaced, laid_same}
use Rattle.printout.proofs.placed.word_at.Goals as goal

pub returns-clause-laid_word : goal.returns-clause-laid_word
returns-clause-laid_word c word e =
    let next = c.write_at-next in
    end_replaced c.args.end _ (omega (arith, next.ensures.ends, ap length e, blanked_one word)) (laid_same next.ensures e refl)
