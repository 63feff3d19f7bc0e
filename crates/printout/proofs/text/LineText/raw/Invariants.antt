-- `raw` meets its contract: the digits of the first bytes are pushed. Assumes nothing.
use Rattle.std.proofs.Common.{◌≡◌, ◌++◌, ◌+◌, ◌*◌, length}
use Rattle.printout.specs.Line.{raw}
use Rattle.printout.proofs.text.LineText.raw.Given as goal

abbrev pub invariant-loop-byte : goal.invariant-loop-byte
invariant-loop-byte l = record {
  said : l.self.bytes.items ≡ l.fn.self.bytes.items ++ raw l.file l.from l.byte-index;
  room : length l.self.bytes.items ≡ length l.fn.self.bytes.items + 2 * l.byte-index;
}
