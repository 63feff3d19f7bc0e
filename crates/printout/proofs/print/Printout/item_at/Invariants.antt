-- `item_at` meets its contract: the lines of the codes before `t` are passed. Assumes nothing.
use Rattle.std.proofs.Common.{◌≡◌, ◌≤◌}
use Rattle.program.specs.Internal.Sections.{bytes_before}
use Rattle.printout.proofs.print.Printout.item_at.Given as goal

abbrev pub invariant-loop-t : goal.invariant-loop-t
invariant-loop-t l = record {
  from : l.from ≡ bytes_before l.self.file.now.counts l.t;
  passed : l.from ≤ l.i;
}
