-- `part_names` meets its contract: so far the entries before this one are counted. Assumes nothing.
use Rattle.std.proofs.Common.{◌≡◌, ◌≤◌, take}
use Rattle.machine.specs.Run.{times_named}
use Rattle.machine.proofs.counts.part_names.Given as goal

abbrev pub invariant-loop-entry : goal.invariant-loop-entry
invariant-loop-entry l = (l.n ≤ l.entry-index) × (l.n ≡ times_named l.t (take l.entry-index l.part))
