-- `raw_at` meets its contract: the digits of the first bytes are laid. Assumes nothing.
use Rattle.std.proofs.Common.{◌≡◌, ◌+◌, ◌*◌}
use Rattle.printout.specs.Line.{raw}
use Rattle.printout.specs.Internal.Writing.{Laid}
use Rattle.printout.proofs.placed.raw_at.Given as goal

abbrev pub invariant-loop-byte : goal.invariant-loop-byte
invariant-loop-byte l = record {
  laid : Laid (raw l.file l.from l.byte-index) l.at l.initial.out l.out l.next;
  next : l.next ≡ l.at + 2 * l.byte-index;
}
