-- `times_named` meets its contract. Assumes nothing.
use Rattle.std.proofs.Common.{[], length, ◌/◌, arith, drop_of_length-le}
use Rattle.std.proofs.lemmas.List.Sums.{sum_by-drop_more}
use Rattle.machine.specs.Run.{times_named}
use Rattle.machine.proofs.Names.{names_parts, names_at_most}
use Rattle.machine.proofs.counts.times_named.Goals as goal

pub loop-part-init : goal.loop-part-init
loop-part-init c =
    let list = c.args.list.now in
    rw (c.from-n.ensures, c.part_names.ensures, c.as_chunks.ensures.front, c.as_chunks.ensures.back) (names_parts c.args.t 192 (length list / 192) list)

-- the next part is counted
pub loop-part-preserved : goal.loop-part-preserved
loop-part-preserved c =
    let o = c.loop-part in
    omega (arith, o.invariant, c.part_names.ensures, sum_by-drop_more (times_named c.args.t) c.as_chunks.result.0.now o.part-index [] c.loop-part-test.true)

pub overflow_add-n : goal.overflow_add-n
overflow_add-n c =
    let o = c.loop-part in
    omega (
      arith,
      o.invariant,
      c.part_names.ensures,
      sum_by-drop_more (times_named c.args.t) c.as_chunks.result.0.now o.part-index [] c.loop-part-test.true,
      names_at_most c.args.t c.args.list.now,
    )

pub returns : goal.returns
returns c = let none = drop_of_length-le c.as_chunks.result.0.now {i = c.loop-part.part-index} c.loop-part-test.false in omega (arith, rw none at c.loop-part.invariant)
