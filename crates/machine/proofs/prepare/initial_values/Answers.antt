-- `initial_values` meets its contract. Assumes nothing.
use Rattle.std.proofs.Common.{◌≡◌, ◌∙◌, arith, length-set, take_all}
use Rattle.program.specs.Layout.{program_of}
use Rattle.machine.specs.State.{start}
use Rattle.machine.proofs.Start.{length-initial, initial_next}
use Rattle.machine.proofs.prepare.initial_values.Goals as goal

pub loop-i-preserved : goal.loop-i-preserved
loop-i-preserved c =
    let a = c.args in
    let o = c.loop-i in (
      simp length-set o.invariant.0,
      rw c.initial_at.ensures (initial_next a.s.now a.l o.variables o.i c.loop-i-test.true (omega (arith, c.requires.variables)) o.invariant.1),
    )

pub returns : goal.returns
returns c =
    let a = c.args in
    let e : c.loop-i.i ≡ a.l.variables = omega (arith, c.loop-i-test.false) in
    (rw e at c.loop-i.invariant.1)
    ∙ take_all a.l.variables (start (program_of a.s.now a.l)).variables (omega (arith, length-initial a.s.now a.l))
