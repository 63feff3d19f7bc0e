-- What an opener or a closer does to the open entries: how the contracts of src/nesting.rt's functions cite the definitions of Nesting.
--     innermost_place   the place that the innermost entry names, or the code's end
--     numbered_form     the form of an opener's or a closer's row, by its number
--     Innermost         the innermost open entry, and whether it names a place
--     changed, turned   the entries after a change, or nesting is broken
--     Room, RoomOf      a change has room
--     Fulfils           a change does what is wanted, and has room
use Rattle.std.specs.Prelude.{ℕ, ◌<◌, ◌≡◌, Bool, false, List, [], ◌∷◌, eqb, length, drop, Option, None, Some}
use Rattle.program.specs.Choice.{choose}
use Rattle.program.specs.Limits.{entry_limit}
use Rattle.program.specs.Nesting.{OpenAfter, broken, opened, named}
use Rattle.program.specs.View.{Form}
use Rattle.program.specs.View as form
use Rattle.program.specs.declared.nesting.Entry.{Entry}
use Rattle.program.specs.declared.nesting.Change.{Change}
use Rattle.program.specs.declared.nesting.Change.TheVariants.{Push, Replace, Pop}

-- the place that the innermost entry names, or the code's end
abbrev pub innermost_place : (end : ℕ) → List Entry → ℕ
innermost_place end [] = end
innermost_place end (e ∷ es) = named e

-- the form of an opener or a closer by its row's number, 10 to 15
abbrev pub numbered_form : (row a n : ℕ) → Form
numbered_form row a n =
    choose (eqb row 10) (form.If a n)
    (choose (eqb row 11) (form.Else n)
    (choose (eqb row 12) (form.While a n)
    (choose (eqb row 13) (form.Again n)
    (choose (eqb row 14) (form.Atomic n) form.End))))

-- e is the innermost open entry, if there is one, and whether it names place p
pub data Innermost (p : ℕ) : (here : Bool) → Entry → List Entry → Type 0 where
  no_entry : {e : Entry} → Innermost p false e []
  some_entry : {e : Entry} {below : List Entry} → Innermost p (eqb (named e) p) e (e ∷ below)

-- the entries after a change
abbrev pub changed : Change → List Entry → List Entry
changed (Push e) es = e ∷ es
changed (Replace e) es = e ∷ drop 1 es
changed Pop es = drop 1 es

abbrev pub turned : Option Change → List Entry → OpenAfter
turned None es = broken
turned (Some ch) es = opened (changed ch es)

-- a change has room: an entry is pushed only below a depth of 16, and replaced or popped only where there is one
abbrev pub Room : Change → List Entry → Type 0
Room (Push e) es = length es < entry_limit
Room (Replace e) es = 0 < length es
Room Pop es = 0 < length es

abbrev pub RoomOf : Option Change → List Entry → Type 0
RoomOf None es = Unit
RoomOf (Some ch) es = Room ch es

-- the change does what is wanted, and has room
pub record Fulfils (ch : Option Change) (es : List Entry) (wanted : OpenAfter) : Type 0 where
  pub does : turned ch es ≡ wanted
  pub room : RoomOf ch es
