-- `entries` meets its contract. The loop's invariant: running the entries that are left from what is kept is running the whole list.
use Rattle.std.proofs.Common.{◌≡◌}
use Rattle.std.specs.Slice.Iter.{chunks_rest, chunks_size}
use Rattle.machine.specs.Internal.Here.{program, here}
use Rattle.machine.proofs.Between.{Between}
use Rattle.machine.proofs.run.Machine.entries.Given as goal

abbrev pub invariant-loop-part : goal.invariant-loop-part
invariant-loop-part l =
    (l.self.file ≡ l.initial.self.file)
    × (chunks_size l.part-iterator ≡ 4096)
    × Between (program l.initial.self) l.initial.self.file.layout.threads l.list (here l.initial.self) (here l.self) l.tallies.moved l.tallies.waiting l.before (chunks_rest l.part-iterator)
