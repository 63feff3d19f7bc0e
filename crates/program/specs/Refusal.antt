-- Each refusal's number and detail D (the standard, "Who can bring a number about").
use Rattle.std.specs.Prelude.{ℕ}
use Rattle.program.specs.declared.refusal.Refusal.{Refusal}
use Rattle.program.specs.declared.refusal.Refusal.TheVariants.{Missing, Version, Count, Length, LeftOver, Record, Instruction, Nesting, Access, Taken, NotTaken, SetsDiffer, NotAtomic, LongList, ThreadNumber, ShortBuffer, LineNumber, FalseStatement}

-- "Each refusal returns its number and one detail D"
abbrev pub number_and_detail : Refusal → ℕ × ℕ
number_and_detail (Missing d) = (1, d)
number_and_detail (Version d) = (2, d)
number_and_detail (Count d) = (3, d)
number_and_detail (Length d) = (4, d)
number_and_detail (LeftOver d) = (5, d)
number_and_detail (Record d) = (6, d)
number_and_detail (Instruction d) = (7, d)
number_and_detail (Nesting d) = (8, d)
number_and_detail (Access d) = (9, d)
number_and_detail (Taken d) = (10, d)
number_and_detail (NotTaken d) = (11, d)
number_and_detail (SetsDiffer d) = (12, d)
number_and_detail (NotAtomic d) = (13, d)
number_and_detail (LongList d) = (14, d)
number_and_detail (ThreadNumber d) = (15, d)
number_and_detail (ShortBuffer d) = (16, d)
number_and_detail (LineNumber d) = (17, d)
number_and_detail (FalseStatement d) = (18, d)

abbrev pub number_of : Refusal → ℕ
number_of r = (number_and_detail r).0

abbrev pub detail_of : Refusal → ℕ
detail_of r = (number_and_detail r).1
