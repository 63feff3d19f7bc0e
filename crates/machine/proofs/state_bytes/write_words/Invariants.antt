-- `write_words` meets its contract. The invariant: the numbers before this one are written. Assumes nothing.
use Rattle.std.proofs.Common.{◌≡◌, take}
use mathlib.Core.List.{flat_map}
use lib.Seq.{sets}
use Rattle.machine.specs.State.{word_bytes}
use Rattle.machine.proofs.state_bytes.write_words.Given as goal

abbrev pub invariant-loop-i : goal.invariant-loop-i
invariant-loop-i l = l.out ≡ sets l.initial.out l.at (flat_map word_bytes (take l.i l.words))
