-- `line` meets its contract: the file's refusals, no such line, a buffer that is too short, or the line laid over the buffer. Assumes nothing.
use Rattle.std.proofs.Common.{◌≡◌, refl, ◌≤◌, length, length-take, Err, rules, arith}
use Rattle.hogunlas.specs.Calls.{line_buffer, laid_over}
use Rattle.hogunlas.proofs.JudgeCall.{report_front, report_within}
use Rattle.hogunlas.proofs.Opening.{opened_by}
use Rattle.hogunlas.proofs.Printing.{line_refused, line_number, line_short, line_done}
use Rattle.hogunlas.proofs.line.Goals as goal

-- the file is refused
pub returns-in_err-program : goal.returns-in_err-program
unfolding line_buffer
returns-in_err-program c =
    let e = line_refused c.args.file.now c.args.i (length c.args.out.now) _ c.in_err-program.ensures in
    let handed : c.from_residual.result ≡ Err c.in_err-program.field-0.0 = search rules in
    record { result = rw (handed, e) refl; buffer = rw e refl }

-- `let printout = Printout {`
pub invariant_of-printout : goal.invariant_of-printout
invariant_of-printout c =
    let found = c.in_ok-program.ensures in
    omega (arith, found.counted, report_within found, length-take c.in_ok-program.n c.judge_file.new.report)

-- `return Err(Refusal::LineNumber(count))`
pub returns-then-count-i : goal.returns-then-count-i
unfolding line_buffer
returns-then-count-i c =
    let counted = c.line_count-count.ensures in
    let past : c.line_count-count.result ≤ c.args.i = c.if-count-i.true in
    let e = line_number c.args.file.now c.args.i (length c.args.out.now) _ _ (opened_by c.in_ok-program.ensures) (rw counted at past) in
    record { result = rw (e, counted) refl; buffer = rw e refl }

-- `return Err(Refusal::ShortBuffer(LINE_SIZE))`
pub returns-then-out-lt-LINE_SIZE : goal.returns-then-out-lt-LINE_SIZE
unfolding line_buffer
returns-then-out-lt-LINE_SIZE c =
    let there = rw c.line_count-count.ensures at c.if-count-i.false in
    let e = line_short c.args.file.now c.args.i (length c.args.out.now) _ _ (opened_by c.in_ok-program.ensures) there c.if-out-lt-LINE_SIZE.true in
    record { result = rw e refl; buffer = rw e refl }

-- `Ok(printout.write_line(i, out))`
pub returns : goal.returns
unfolding line_buffer laid_over
returns c =
    let found = c.in_ok-program.ensures in
    let there = rw c.line_count-count.ensures at c.if-count-i.false in
    let e = line_done c.args.file.now c.args.i (length c.args.out.now) _ _ (opened_by found) there c.if-out-lt-LINE_SIZE.false in
    let written = rw (found.of_file, report_front found) at c.write_line.ensures in
    record { result = rw (e, written.counted) refl; buffer = rw e written.bytes }
