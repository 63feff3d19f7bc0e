-- `name` meets its contract: the first bytes of the word are pushed. Assumes nothing.
use Rattle.std.proofs.Common.{◌≡◌, ◌++◌, ◌+◌, length, take}
use Rattle.printout.proofs.text.LineText.name.Given as goal

abbrev pub invariant-loop-byte : goal.invariant-loop-byte
invariant-loop-byte l = record {
  said : l.self.bytes.items ≡ l.fn.self.bytes.items ++ take l.byte-index l.word;
  room : length l.self.bytes.items ≡ length l.fn.self.bytes.items + l.byte-index;
}
