-- `part_entries` meets its contract. Assumes nothing.
use Rattle.std.proofs.Common.{◌≡◌, ℕ, ◌<◌, length, get_or, sym, refl, ◌∙◌, subst, arith}
use Rattle.program.specs.Layout.{program_of}
use Rattle.program.specs.Limits.{thread_limit}
use Rattle.program.specs.declared.sections.ProgramFile.{ProgramFile}
use Rattle.machine.specs.Run.{Entries}
use Rattle.machine.specs.Step.{outcome, step}
use Rattle.machine.specs.Internal.Here.{here}
use Rattle.machine.specs.Internal.Tally.{AtMost}
use Rattle.machine.proofs.Between.{part_start, part_next, part_end}
use Rattle.machine.proofs.run.Machine.part_entries.Goals.{In-loop-t}
use Rattle.machine.proofs.run.Machine.part_entries.Goals as goal

-- an entry is the number of a thread
module _ (c : In-loop-t) where
  abbrev t : ℕ
  t = get_or c.args.list.now c.loop-t.t-index 0

  named : t < c.args.self.now.file.layout.threads
  unfolding Entries
  named = c.requires.0 c.loop-t.t-index c.loop-t-test.true

  small : t < thread_limit
  small = omega (arith, named, c.args.self.now.file.located.sound.threads)

pub loop-t-init : goal.loop-t-init
loop-t-init c = (refl, part_start _ _ _ _ _ _ c.requires.1)

-- `let outcome = self.step(t)`
pub step-outcome-requires : goal.step-outcome-requires
step-outcome-requires c =
    let o = ((goal.at.step-outcome-requires c).In-loop-t) in
    subst (λ (f : ProgramFile). t o < f.layout.threads) (sym c.loop-t.invariant.0) (named o)

-- `tallies.count(t, outcome)`: no thread has moved or waited more often than there were entries
pub count-requires : goal.count-requires
unfolding AtMost
count-requires c =
    let o = ((goal.at.count-requires c).In-loop-t) in
    let few = c.loop-t.invariant.1.at_most (t o) (small o) in
    (small o, omega (arith, few.0, c.requires.2, c.loop-t-test.true), omega (arith, few.1, c.requires.2, c.loop-t-test.true))

pub loop-t-preserved : goal.loop-t-preserved
loop-t-preserved c =
    let o = ((goal.at.loop-t-preserved c).In-loop-t) in
    let same = c.loop-t.invariant.0 in
    let does = c.step-outcome.ensures in
    let before = here c.loop-t.self in (
      does.file ∙ same,
      rw (c.count.ensures.moved, c.count.ensures.waiting)
          (part_next c.loop-t.invariant.1 c.loop-t-test.true (small o)
          (subst (λ (f : ProgramFile). c.step-outcome.result ≡ outcome (program_of f.bytes.now f.layout) (t o) before) same does.value)
          (subst (λ (f : ProgramFile). here c.step-outcome.new.self ≡ step (program_of f.bytes.now f.layout) (t o) before) same does.state_after)),
    )

pub returns : goal.returns
returns c =
    let x = c.loop-t.invariant in
    let all : c.loop-t.t-index ≡ length c.args.list.now = omega arith in
    record { file = x.0; run_to = part_end x.1 c.loop-t-test.false; at_most = rw all at x.1.at_most }
