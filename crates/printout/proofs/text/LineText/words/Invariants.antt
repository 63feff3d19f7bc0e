-- `words` meets its contract: the name and the first fields are said. Assumes nothing.
use Rattle.std.proofs.Common.{◌≡◌, ◌∷◌, ◌++◌, ◌+◌, ◌≤◌, length, take, flat_map}
use Rattle.std.specs.List.{sum_by}
use Rattle.printout.specs.Internal.Field.{field_words, field_room}
use Rattle.printout.specs.Internal.Writing.{blanked}
use Rattle.printout.proofs.text.LineText.words.Given as goal

abbrev pub invariant-loop-field : goal.invariant-loop-field
invariant-loop-field l = record {
  said : l.self.bytes.items ≡ l.fn.self.bytes.items ++ blanked (l.name ∷ flat_map field_words (take l.field-index l.fields));
  room : length l.self.bytes.items ≤ length l.fn.self.bytes.items + length l.name + 1 + sum_by field_room (take l.field-index l.fields);
}
