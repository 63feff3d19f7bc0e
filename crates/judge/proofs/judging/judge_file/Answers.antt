-- `judge_file` meets its contract. Assumes nothing.
use Rattle.std.proofs.Common.{arith, sym}
use Rattle.std.proofs.lemmas.Result.{err_from_is_err_and}
use Rattle.program.proofs.Sound.{sound_file}
use Rattle.judge.proofs.Accepting.{report_length_small, read_refused, file_refused, file_accepted}
use Rattle.judge.proofs.judging.judge_file.Goals as goal

pub returns-in_err-layout : goal.returns-in_err-layout
returns-in_err-layout c =
    let p = err_from_is_err_and c.from_residual.result c.from_residual.ensures.1 in
    rw (p.1, p.2) (read_refused c.args.bytes.now _ (sym c.in_err-layout.ensures.0))

pub locate-file-requires : goal.locate-file-requires
locate-file-requires c = sound_file c.args.bytes.now _ (sym c.in_ok-layout.ensures.0)

pub walk_codes-requires : goal.walk_codes-requires
walk_codes-requires c =
    (c.requires, rw (c.locate-file.ensures.0, c.locate-file.ensures.1) c.in_ok-layout.ensures.1)

pub overflow_add-result : goal.overflow_add-result
overflow_add-result c = omega (arith, report_length_small c.args.bytes.now c.in_ok-layout.layout (sym c.in_ok-layout.ensures.0))

pub returns-in_err-walk_codes : goal.returns-in_err-walk_codes
returns-in_err-walk_codes c =
    let p = err_from_is_err_and c.from_residual-in_err-walk_codes.result c.from_residual-in_err-walk_codes.ensures.1 in
    rw (p.1, p.2)
    (file_refused c.args.bytes.now c.in_ok-layout.layout (sym c.in_ok-layout.ensures.0) c.args.report.now _
    (rw (c.locate-file.ensures.0, c.locate-file.ensures.1) at c.in_err-walk_codes.ensures))

pub returns : goal.returns
returns c =
    file_accepted c.args.bytes.now c.in_ok-layout.layout (sym c.in_ok-layout.ensures.0) c.args.report.now _ c.locate-file.result c.locate-file.ensures.0 c.locate-file.ensures.1 c.requires
    (rw (c.locate-file.ensures.0, c.locate-file.ensures.1) at c.in_ok-walk_codes.ensures)
