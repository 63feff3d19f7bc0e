-- `part_entries` meets its contract. The loop's invariant: running the entries that are left from what is kept is running the whole part.
use Rattle.std.proofs.Common.{◌≡◌}
use Rattle.machine.specs.Internal.Here.{program, here}
use Rattle.machine.proofs.Between.{InPart}
use Rattle.machine.proofs.run.Machine.part_entries.Given as goal

abbrev pub invariant-loop-t : goal.invariant-loop-t
invariant-loop-t l =
    (l.self.file ≡ l.initial.self.file)
    × InPart (program l.initial.self) l.list (here l.initial.self) l.initial.tallies.moved l.initial.tallies.waiting l.before (here l.self) l.tallies.moved l.tallies.waiting l.t-index
