-- `output` meets its contract: the file's refusal, or all its lines. Assumes nothing.
use Rattle.std.proofs.Common.{refl, arith, length-take}
use Rattle.hogunlas.specs.Calls.{laid_over}
use Rattle.hogunlas.proofs.JudgeCall.{report_front, report_within}
use Rattle.bench.proofs.Outputs.{output_refused, output_accepted}
use Rattle.bench.proofs.output.output.Goals as goal

-- `Err(refusal) => refusal_line(refusal, text)`
pub returns-in-Err : goal.returns-in-Err
unfolding laid_over
returns-in-Err c =
    let e = output_refused c.args.input.now c.requires.0 _ c.in-Err.ensures in
    let written = c.refusal_line.ensures in
    record { result = rw (e, written.counted) refl; buffer = rw (e, written.bytes) refl }

-- `let printout = Printout {`
pub invariant_of-printout : goal.invariant_of-printout
invariant_of-printout c =
    let found = c.in-Ok.ensures in
    omega (arith, found.counted, report_within found, length-take c.in-Ok.n c.judge_file.new.report)

-- `print_lines(&printout, text)`
pub returns-in-Ok : goal.returns-in-Ok
returns-in-Ok c =
    let found = c.in-Ok.ensures in
    let all = output_accepted c.args.input.now c.requires.0 found in
    let p = rw (found.of_file, report_front found) at c.print_lines.ensures in
    record { result = rw all p.result; buffer = rw all p.buffer }
