-- The innermost open entry, where its place and the depth are known. Assumes nothing.
--     innermost_here   whether it names a place
--     innermost_top    it is the top one, if any is open
--     room_by_depth    whether there is room for another
use Prim.Native.Nat.{ℕ, ◌+◌}
use mathlib.Core.Path.{◌≡◌, refl, sym, ap}
use mathlib.Core.Bool.{Bool, not}
use mathlib.Core.List.{List}
use borrow.Author.Tests.{ne_eqb}
use lib.Dec.{eqb, ltb}
use lib.ListN.{length}
use native.Mathlib.Omega.{arith}
use Rattle.std.specs.Bool.{then_some}
use Rattle.std.specs.List.{slice_get}
use Rattle.program.specs.Limits.{entry_limit}
use Rattle.program.specs.Internal.Change.{innermost_place, Innermost, no_entry, some_entry}
use Rattle.program.specs.declared.nesting.Entry.{Entry}

module _ {p : ℕ} where
  pub innermost_here : {here : Bool} {e : Entry} {es : List Entry} → Innermost p here e es → here ≡ eqb (innermost_place (p + 1) es) p
  innermost_here no_entry = sym (ne_eqb (p + 1) p (omega arith))
  innermost_here some_entry = refl

  pub innermost_top : {here : Bool} {e : Entry} {es : List Entry} → Innermost p here e es → (depth : ℕ) → length es ≡ depth
      → then_some (not (eqb depth 0)) e ≡ slice_get es 0
  innermost_top no_entry depth d = rw (← d)
  innermost_top (some_entry {e} {below}) depth d = rw (ne_eqb depth 0 (omega (arith, d)))

pub room_by_depth : (es : List Entry) (depth : ℕ) → length es ≡ depth → ltb depth entry_limit ≡ ltb (length es) entry_limit
room_by_depth es depth d = ap (λ (n : ℕ). ltb n entry_limit) (sym d)
