-- `walk_section`: the scan from this place on is the whole one. Assumes nothing.
use Rattle.std.proofs.Common.{◌≡◌, ◌∙◌, arith, ◌+◌, ◌*◌}
use Rattle.std.proofs.lemmas.Result.{err_from_is_err_and}
use Rattle.program.specs.Instruction.{decode_at, decoded_instruction}
use Rattle.program.specs.View.{access_of}
use Rattle.judge.proofs.AccessRules.{asked_lock}
use Rattle.judge.proofs.ScanLoop.{scanning_start, access_below, access_within, refused_here, refused_step, ready, scanning_next, scanning_end}
use Rattle.judge.proofs.walk.walk_section.Goals.{After-instruction_at-i}
use Rattle.judge.proofs.walk.walk_section.Goals as goal

-- the instruction at hand
said : (u : After-instruction_at-i) → let a = u.args in
    u.instruction_at-i.result ≡ decoded_instruction (decode_at a.layout.locks a.layout.variables a.bytes.now (a.code.start + 4 * u.loop-p.p))
said u = let a = u.args in (u.instruction_at-i.ensures a.layout.locks a.layout.variables (u.requires.0.valid u.loop-p.p u.loop-p-test.true)).0

pub loop-p-init : goal.loop-p-init
loop-p-init c = rw (c.start-walk.ensures c.args.report.now) (scanning_start _ _ _ _ _ _ _ c.requires.0.nested)

pub effect_below-requires : goal.effect_below-requires
effect_below-requires c =
    let i = said ((goal.at.effect_below-requires c).After-instruction_at-i) in (
      access_within _ _ _ _ _ _ _ _ _ c.loop-p.invariant c.loop-p-test.true c.requires.2 c.requires.3 _ i,
      asked_lock _ _ _ _ _ c.requires.1 c.requires.2 (access_of c.instruction_at-i.result)
          (access_below _ _ _ _ _ _ _ _ _ c.loop-p.invariant c.loop-p-test.true c.requires.2 c.requires.3 _ i),
    )

pub returns-in_err-effect : goal.returns-in_err-effect
returns-in_err-effect c =
    let a = c.args in
    let p = err_from_is_err_and c.from_residual.result c.from_residual.ensures.1 in
    rw (p.1, p.2)
    (refused_here _ _ _ _ _ _ _ _ _ c.loop-p.invariant c.loop-p-test.true c.requires.2 c.requires.3 _ (said ((goal.at.returns-in_err-effect c).After-instruction_at-i))
    _ (c.in_err-effect.ensures a.bytes.now a.layout a.code.number c.requires.1))

pub apply-requires : goal.apply-requires
apply-requires c =
    let a = c.args in (
      omega (arith, c.requires.4, c.requires.5, c.loop-p.invariant.report_length),
      ready _ _ _ _ _ _ _ _ _ c.loop-p.invariant c.loop-p-test.true c.requires.2 c.requires.3 _ (said ((goal.at.apply-requires c).After-instruction_at-i)) _
          (c.in_ok-effect.ensures a.bytes.now a.layout a.code.number c.requires.1),
    )

pub returns-in_err-apply : goal.returns-in_err-apply
returns-in_err-apply c =
    let a = c.args in
    let p = err_from_is_err_and c.from_residual-in_err-apply.result c.from_residual-in_err-apply.ensures.1 in
    rw (p.1, p.2)
    (refused_step _ _ _ _ _ _ _ _ _ c.loop-p.invariant c.loop-p-test.true c.requires.2 c.requires.3 _ (said ((goal.at.returns-in_err-apply c).After-instruction_at-i))
    _ (c.in_ok-effect.ensures a.bytes.now a.layout a.code.number c.requires.1) _ c.in_err-apply.ensures)

pub loop-p-preserved : goal.loop-p-preserved
loop-p-preserved c =
    let a = c.args in
    scanning_next _ _ _ _ _ _ _ _ _ c.loop-p.invariant c.loop-p-test.true c.requires.2 c.requires.3 _ (said ((goal.at.loop-p-preserved c).After-instruction_at-i))
    _ (c.in_ok-effect.ensures a.bytes.now a.layout a.code.number c.requires.1) (omega (arith, c.requires.4, c.requires.5)) _ c.in_ok-apply.ensures

pub returns : goal.returns
returns c = c.end.ensures ∙ scanning_end _ _ _ _ _ _ _ _ _ c.loop-p.invariant c.loop-p-test.false
