-- The scan for the first place where nesting is broken, one place at a time. Assumes nothing.
--     rest_from    what is left of the scan at a place
--     rest_passed  a place is passed
--     rest_broken  nesting is broken there
--     rest_end     the code's end
--     place_unnamed, unnamed_there
--                   no entry names a place, by the innermost entry's
--     rest_start   the scan's start
use Prim.Native.Nat.{ℕ, suc, ◌+◌, ◌-◌, ◌*◌, ◌<◌, ◌≤◌}
use mathlib.Core.Path.{◌≡◌, refl}
use mathlib.Core.List.{List, [], ◌∷◌}
use mathlib.Core.Bool.{not}
use borrow.Author.Tests.{ne_eqb}
use lib.Dec.{eqb}
use native.Mathlib.Numerals.{add-one}
use native.Mathlib.Omega.{arith}
use Rattle.program.specs.Instruction.{decode_at, decoded_instruction}
use Rattle.program.specs.View.{form_of}
use Rattle.program.specs.Layout.{instructions_at}
use Rattle.program.specs.Nesting.{OpenAfter, broken, opened, unnamed, nest, first_broken, at_code_end}
use Rattle.std.specs.Prelude.{Option, Some}
use Rattle.program.specs.Internal.Change.{innermost_place}
use Rattle.program.specs.declared.nesting.Entry.{Entry}

module _ (locks variables : ℕ) (s : List ℕ) (start n : ℕ) where
  -- what is left of the scan at place p
  abbrev pub rest_from : ℕ → List Entry → Option ℕ
  rest_from p es = first_broken p (instructions_at locks variables s (n - p) (start + 4 * p)) es

  abbrev nest_at : ℕ → List Entry → OpenAfter
  nest_at p es = nest p (form_of (decoded_instruction (decode_at locks variables s (start + 4 * p)))) es

  -- a place is passed
  pub rest_passed : (p : ℕ) (es fs : List Entry) → p < n → nest_at p es ≡ opened fs → rest_from p es ≡ rest_from (p + 1) fs
  unfolding instructions_at first_broken
  rest_passed p es fs h e =
      let m : n - p ≡ suc (n - (p + 1)) = omega arith in
      let o : start + 4 * (p + 1) ≡ start + 4 * p + 4 = omega arith in
      rw (m, e, o, add-one p)

  -- nesting is broken there
  pub rest_broken : (p : ℕ) (es : List Entry) → p < n → nest_at p es ≡ broken → rest_from p es ≡ Some p
  unfolding instructions_at first_broken
  rest_broken p es h e =
      let m : n - p ≡ suc (n - (p + 1)) = omega arith in
      rw (m, e)

  -- the code's end
  pub rest_end : (p : ℕ) (es : List Entry) → n ≤ p → rest_from p es ≡ at_code_end p es
  unfolding instructions_at first_broken
  rest_end p es h =
      let m : n - p ≡ 0 = omega arith in
      rw m

  -- the scan's start
  pub rest_start : rest_from 0 [] ≡ first_broken 0 (instructions_at locks variables s n start) []
  rest_start =
      let m : n - 0 ≡ n = omega arith in
      let o : start + 4 * 0 ≡ start = omega arith in
      rw (m, o)

-- no entry names p, by the innermost entry's place
pub place_unnamed : (end p : ℕ) (es : List Entry) → p < end → unnamed p es ≡ not (eqb (innermost_place end es) p)
unfolding unnamed
place_unnamed end p [] h = rw (ne_eqb end p (omega arith))
place_unnamed end p (e ∷ es) h = refl

pub unnamed_there : (end p place : ℕ) (es : List Entry) → p < end → place ≡ innermost_place end es → unnamed p es ≡ not (eqb place p)
unnamed_there end p place es h e = rw e (place_unnamed end p es h)
