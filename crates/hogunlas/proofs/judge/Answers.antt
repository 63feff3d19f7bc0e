-- `judge` meets its contract: the file's refusals, a buffer that is too short, or the report copied over the buffer; demand 2 is a theorem
-- of every file.
-- Assumes nothing.
use Rattle.std.proofs.Common.{◌≡◌, refl, length, Err, rules}
use Rattle.judge.proofs.RulesFile.{demand2}
use Rattle.hogunlas.specs.Calls.{judge_buffer, laid_over}
use Rattle.hogunlas.proofs.JudgeCall.{report_front, judge_refused, judge_short, judge_done}
use Rattle.hogunlas.proofs.judge.Goals as goal

-- the file is refused
pub returns-in_err-n : goal.returns-in_err-n
unfolding judge_buffer
returns-in_err-n c =
    let e = judge_refused c.args.file.now (length c.args.out.now) _ c.in_err-n.ensures in
    let handed : c.from_residual.result ≡ Err c.in_err-n.field-0.0 = search rules in
    record { result = rw (handed, e) refl; buffer = rw e refl; demand = demand2 c.args.file.now }

-- `return Err(Refusal::ShortBuffer(n))`
pub returns-then-out-n : goal.returns-then-out-n
unfolding judge_buffer
returns-then-out-n c =
    let e = judge_short c.in_ok-n.ensures (length c.args.out.now) c.if-out-n.true in
    record { result = rw e refl; buffer = rw e refl; demand = demand2 c.args.file.now }

-- `Ok(n)`
pub returns : goal.returns
unfolding judge_buffer laid_over
returns c =
    let found = c.in_ok-n.ensures in
    let e = judge_done found (length c.args.out.now) c.if-out-n.false in
    record { result = rw (e, found.size) refl; buffer = rw (e, c.copy_from_slice.ensures.after, report_front found, found.size) refl; demand = demand2 c.args.file.now }
