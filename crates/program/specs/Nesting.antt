-- Nesting (the standard, "The file": from "A place is an instruction's index in its thread" on), as a scan with the open entries,
-- innermost first.
use Rattle.std.specs.Prelude.{ℕ, suc, ◌+◌, Bool, true, ◌&&◌, not, List, [], ◌∷◌, length, ltb, eqb, Option, Some, None}
use Rattle.program.specs.Choice.{choose}
use Rattle.program.specs.View.{form_of, Form, Plain, If, Else, While, Again, Atomic, End}
use Rattle.program.specs.Limits.{entry_limit}
use Rattle.program.specs.declared.instruction.Instruction.{Instruction}
use Rattle.program.specs.declared.nesting.Entry.{Entry}
use Rattle.program.specs.declared.nesting.Entry.TheVariants.{Then, Loop, Block}
use Rattle.program.specs.declared.nesting.Entry.TheVariants as entry

-- the entries open after a place, or nesting broken there
pub data OpenAfter : Type 0 where
  broken : OpenAfter
  opened : List Entry → OpenAfter

-- the place that an entry names
unfoldable pub named : Entry → ℕ
named (Then w) = w
named (entry.Else w) = w
named (Loop w n) = w
named (Block w) = w

-- "another instruction stands at the innermost named place": none does at p
unfoldable pub unnamed : ℕ → List Entry → Bool
unnamed p [] = true
unnamed p (e ∷ es) = not (eqb (named e) p)

-- "a distance is 0"; "a 17th entry opens"
unfoldable pub opening : ℕ → ℕ → Entry → List Entry → OpenAfter
opening p n e es = choose (unnamed p es && not (eqb n 0) && ltb (length es) entry_limit) (opened (e ∷ es)) broken

unfoldable pub passing : ℕ → List Entry → OpenAfter
passing p es = choose (unnamed p es) (opened es) broken

-- "a closer has no open entry, or is of the wrong kind for the innermost one, or stands elsewhere than named". "ELSE must stand at
-- the place its IF named and puts the place of its END there instead"
unfoldable pub at_else : ℕ → ℕ → List Entry → OpenAfter
at_else p n [] = broken
at_else p n (Then w ∷ es) = choose (eqb w p && not (eqb n 0)) (opened (entry.Else (p + n) ∷ es)) broken
at_else p n (entry.Else w ∷ es) = broken
at_else p n (Loop w m ∷ es) = broken
at_else p n (Block w ∷ es) = broken

-- "AGAIN's n differs from its WHILE's"
unfoldable pub at_again : ℕ → ℕ → List Entry → OpenAfter
at_again p n [] = broken
at_again p n (Then w ∷ es) = broken
at_again p n (entry.Else w ∷ es) = broken
at_again p n (Loop w m ∷ es) = choose (eqb w p && not (eqb n 0) && eqb n m) (opened es) broken
at_again p n (Block w ∷ es) = broken

unfoldable pub at_end : ℕ → List Entry → OpenAfter
at_end p [] = broken
at_end p (Then w ∷ es) = broken
at_end p (entry.Else w ∷ es) = choose (eqb w p) (opened es) broken
at_end p (Loop w m ∷ es) = broken
at_end p (Block w ∷ es) = choose (eqb w p) (opened es) broken

-- an instruction of this form at place p
unfoldable pub nest : ℕ → Form → List Entry → OpenAfter
nest p Plain es = passing p es
nest p (If a n) es = opening p n (Then (p + n)) es
nest p (Else n) es = at_else p n es
nest p (While a n) es = opening p n (Loop (p + n) n) es
nest p (Again n) es = at_again p n es
nest p (Atomic n) es = opening p n (Block (p + n)) es
nest p End es = at_end p es

-- "It is also broken at the code's end if an entry is open"
unfoldable pub at_code_end : ℕ → List Entry → Option ℕ
at_code_end p [] = None
at_code_end p (e ∷ es) = Some p

abbrev pub go_on : ℕ → OpenAfter → (List Entry → Option ℕ) → Option ℕ
go_on p broken rest = Some p
go_on p (opened es) rest = rest es

-- the first place from p on where nesting is broken
unfoldable pub first_broken : ℕ → List Instruction → List Entry → Option ℕ
first_broken p [] es = at_code_end p es
first_broken p (i ∷ is) es = go_on p (nest p (form_of i) es) (first_broken (suc p) is)
