-- `words` meets its contract: the name and the first fields are said. Assumes nothing.
use Rattle.std.proofs.Common.{append_assoc, arith}
use Rattle.std.proofs.lemmas.List.Sums.{sum_by_more}
use Rattle.printout.specs.Internal.Field.{field_words, field_room}
use Rattle.printout.specs.Internal.Writing.{blanked}
use Rattle.printout.specs.declared.words.Field.TheVariants.{Register}
use Rattle.printout.proofs.Said.{words_next}
use Rattle.printout.proofs.text.LineText.words.Goals as goal

pub loop-field-preserved : goal.loop-field-preserved
unfolding blanked
loop-field-preserved c =
    let l = c.loop-field in
    record {
      said = rw (c.field.ensures.words, l.invariant.said, words_next field_words c.args.fields.now l.field-index (Register 0) c.loop-field-test.true) (simp append_assoc);
      room = omega (arith, sum_by_more field_room c.args.fields.now l.field-index (Register 0) c.loop-field-test.true);
    }
