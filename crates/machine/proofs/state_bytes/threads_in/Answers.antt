-- `threads_in` meets its contract. Assumes nothing.
use Rattle.std.proofs.Common.{◌≡◌, sym, ◌∙◌, arith, length-set, take_all}
use Rattle.program.specs.Limits.{thread_limit}
use Rattle.machine.specs.Internal.Kept.{threads_in}
use Rattle.machine.proofs.Threads.{threads_next}
use Rattle.machine.proofs.state_bytes.threads_in.Goals as goal

pub loop-t-preserved : goal.loop-t-preserved
loop-t-preserved c =
    let a = c.args in
    let o = c.loop-t in (
      simp length-set o.invariant.0,
      threads_next a.places.now a.registers.now o.threads o.t (omega arith) (omega arith) o.invariant.1,
    )

pub returns : goal.returns
returns c =
    let a = c.args in
    let o = c.loop-t in
    let e : o.t ≡ thread_limit = omega (arith, c.loop-t-test.false) in
    sym (take_all thread_limit o.threads (omega arith))
    ∙ (rw e at o.invariant.1)
    ∙ take_all thread_limit (threads_in a.places.now a.registers.now) (omega arith)
