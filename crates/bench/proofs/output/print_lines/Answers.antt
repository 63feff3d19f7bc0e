-- `print_lines` meets its contract: after i turns the first i lines are written. Assumes nothing.
use Rattle.std.proofs.Common.{◌≡◌, ◌∙◌, sym, ◌+◌, ◌≤◌, length, length-drop, length-take, arith}
use Rattle.hogunlas.proofs.Opening.{counts_small}
use Rattle.printout.proofs.Parts.{length-lines}
use Rattle.program.specs.Limits.{line_size}
use Rattle.program.specs.Internal.Bounds.{line_limit}
use Rattle.bench.specs.Internal.Printing.{lines_of}
use Rattle.bench.proofs.Lines.{lines_none, lines_room, lines_one_more, lines_all}
use Rattle.bench.proofs.output.print_lines.Goals.{In-loop-i}
use Rattle.bench.proofs.output.print_lines.Goals as goal

pub loop-i-init : goal.loop-i-init
loop-i-init c = lines_none (lines_of c.args.printout.now) c.args.text.now

-- there are as many lines as counted, and not too many for the buffer
lines_counted : (c : In-loop-i) → (length (lines_of c.args.printout.now) ≡ c.line_count-count.result) × (c.line_count-count.result ≤ line_limit)
lines_counted c =
    let p = c.args.printout.now in
    let file = p.file.now in
    let sound = file.located.sound in
    let many = c.line_count-count.ensures in
    (length-lines file.bytes.now file.layout p.report.now sound ∙ sym many, omega (arith, many, counts_small file.bytes.now file.layout sound))

-- there is room for the next line
next_line_room : (c : In-loop-i) → c.loop-i.at + line_size ≤ length c.loop-i.text
next_line_room c =
    let many = lines_counted c in
    lines_room c.loop-i.invariant (omega (arith, many.0, c.loop-i-test.true)) (omega (arith, many)) c.requires

-- `at += printout.write_line(i, &mut text[at..])`
pub slice_bounds-write_line-count : goal.slice_bounds-write_line-count
slice_bounds-write_line-count c = omega (arith, next_line_room ((goal.at.slice_bounds-write_line-count c).In-loop-i))

pub slice_bounds-write_line-start : goal.slice_bounds-write_line-start
slice_bounds-write_line-start c = omega (arith, next_line_room ((goal.at.slice_bounds-write_line-start c).In-loop-i))

pub write_line-at-requires : goal.write_line-at-requires
write_line-at-requires c = (
  omega (arith, c.line_count-count.ensures, c.loop-i-test.true),
  rw (length-take, length-drop) (omega (arith, next_line_room ((goal.at.write_line-at-requires c).In-loop-i))),
)

pub overflow_add-at : goal.overflow_add-at
overflow_add-at c =
    let turn = ((goal.at.overflow_add-at c).In-loop-i) in
    omega (arith, c.write_line-at.ensures.short, turn.loop-i.invariant.short, turn.loop-i-test.true, (lines_counted turn).1)

pub loop-i-preserved : goal.loop-i-preserved
loop-i-preserved c =
    let turn = ((goal.at.loop-i-preserved c).In-loop-i) in
    lines_one_more turn.loop-i.invariant (omega (arith, (lines_counted turn).0, turn.loop-i-test.true)) _ _ c.write_line-at.ensures

pub returns : goal.returns
returns c =
    let p = c.args.printout.now in
    let file = p.file.now in
    let all = lines_all c.loop-i.invariant (omega (arith, length-lines file.bytes.now file.layout p.report.now file.located.sound, c.line_count-count.ensures, c.loop-i-test.false)) in
    record { result = all.0; buffer = all.1 }
