-- `write_words` meets its contract. Assumes nothing.
use Rattle.std.proofs.Common.{refl, ◌∙◌, arith}
use mathlib.Core.List.{flat_map}
use Rattle.machine.specs.State.{word_bytes}
use Rattle.machine.proofs.StateBytes.{write_each, length-first_words}
use Rattle.machine.proofs.state_bytes.write_words.Goals as goal

pub loop-i-init : goal.loop-i-init
unfolding flat_map
loop-i-init c = refl

pub loop-i-preserved : goal.loop-i-preserved
unfolding word_bytes
loop-i-preserved c =
    let o = c.loop-i in
    let a = c.args in
    c.write.ensures
    ∙ rw (c.to_be_bytes.ensures, o.invariant)
    (write_each word_bytes 4 a.out.now a.at a.words.now o.i 0 c.loop-i-test.true (length-first_words a.words.now o.i (omega arith)))
