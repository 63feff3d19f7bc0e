-- `times_named` meets its contract: what is left to count and what is counted so far make the whole. Assumes nothing.
use Rattle.std.proofs.Common.{◌≡◌, ◌+◌, drop}
use Rattle.std.specs.List.{sum_by}
use Rattle.machine.specs.Run.{times_named}
use Rattle.machine.proofs.counts.times_named.Given as goal

abbrev pub invariant-loop-part : goal.invariant-loop-part
invariant-loop-part l = l.n + sum_by (times_named l.t) (drop l.part-index l.parts) ≡ times_named l.t l.list
