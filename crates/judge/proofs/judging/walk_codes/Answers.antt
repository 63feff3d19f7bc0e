-- `walk_codes`: the scan over the codes from here on is the whole one. Assumes nothing.
use Rattle.std.proofs.Common.{arith}
use Rattle.std.proofs.lemmas.Result.{err_from_is_err_and}
use Rattle.judge.proofs.CodeLoop.{walking_start, report_inside_limit, walking_next, refused_code, walking_end}
use Rattle.judge.proofs.judging.walk_codes.Goals as goal

pub loop-code-init : goal.loop-code-init
loop-code-init c = walking_start _ _ _ _ c.args.file.now.located _

pub walk_by-requires : goal.walk_by-requires
walk_by-requires c = (
  c.loop-code-test.true,
  c.fill_rules.ensures.lawful,
  (report_inside_limit _ _ _ _ c.args.file.now.located _ _ _ _ c.loop-code.invariant c.loop-code-test.true),
  omega (arith, c.requires.0, c.loop-code.invariant.report_length),
)

pub returns-in_err-walk_by : goal.returns-in_err-walk_by
returns-in_err-walk_by c =
    let p = err_from_is_err_and c.from_residual.result c.from_residual.ensures.1 in
    rw (p.1, p.2)
    (refused_code _ _ _ _ c.args.file.now.located _ _ _ _ c.loop-code.invariant c.loop-code-test.true _ (c.in_err-walk_by.ensures))

pub overflow_add-first-in-loop-code : goal.overflow_add-first-in-loop-code
overflow_add-first-in-loop-code c =
    omega (arith, report_inside_limit _ _ _ _ c.args.file.now.located _ _ _ _ c.loop-code.invariant c.loop-code-test.true)

pub loop-code-preserved : goal.loop-code-preserved
loop-code-preserved c =
    rw c.count.ensures
    (walking_next _ _ _ _ c.args.file.now.located _ _ _ _ c.loop-code.invariant c.loop-code-test.true _ c.walk_by.auto.report
    (c.in_ok-walk_by.ensures))

pub returns : goal.returns
returns c = walking_end _ _ _ _ c.args.file.now.located _ _ _ _ c.loop-code.invariant c.loop-code-test.false
