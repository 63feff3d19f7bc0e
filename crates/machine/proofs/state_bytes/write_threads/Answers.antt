-- `write_threads` meets its contract. Assumes nothing.
use Rattle.std.proofs.Common.{ℕ, ◌+◌, ◌*◌, List, get_or, sym, refl, ap, ◌∙◌, arith}
use mathlib.Core.List.{flat_map}
use lib.Seq.{sets}
use Rattle.program.specs.Limits.{thread_size}
use Rattle.program.proofs.Lists.{sets-append}
use Rattle.machine.specs.Internal.Kept.{nobody}
use Rattle.machine.specs.State.{pair_bytes, word_bytes, thread_bytes}
use Rattle.machine.proofs.StateBytes.{pair_bytes-part, write_each, length-first_threads}
use Rattle.machine.proofs.state_bytes.write_threads.Goals as goal

pub loop-i-init : goal.loop-i-init
unfolding flat_map
loop-i-init c = refl

pub loop-i-preserved : goal.loop-i-preserved
unfolding thread_bytes pair_bytes
loop-i-preserved c =
    let o = c.loop-i in
    let a = c.args in
    let th = get_or a.threads.now o.i nobody in
    let same = pair_bytes-part th.place in
    let long = length-first_threads a.threads.now o.i (omega arith) (λ k l. c.requires.2 k (omega arith)) in
    c.write_words.ensures
    ∙ rw (c.write.ensures, c.to_be_bytes.ensures, same.0, same.1)
    (sym (sets-append o.out (a.at + thread_size * o.i) (pair_bytes th.place) (flat_map word_bytes th.registers))
    ∙ ap (λ (out : List ℕ). sets out (a.at + thread_size * o.i) (thread_bytes th)) o.invariant
    ∙ write_each thread_bytes thread_size a.out.now a.at a.threads.now o.i nobody c.loop-i-test.true long)
