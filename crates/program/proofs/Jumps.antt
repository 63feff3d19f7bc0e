-- Where nesting passes, every distance leads to a place of the code. Assumes nothing.
--     jumps_turn   one turn of the scan, from its end to its beginning
--     jumps_all    the whole scan
--     jump         one place
use Prim.Native.Nat.{ℕ, zero, suc, ◌+◌, ◌<◌}
use native.Mathlib.Nat.{add-zero, zero-add, add-suc, suc-add}
use native.Mathlib.Omega.{arith}
use mathlib.Core.Path.{◌≡◌, sym, subst}
use mathlib.Core.List.{List, [], ◌∷◌}
use lib.ListN.{length, get_or}
use Rattle.std.specs.Prelude.{None}
use Rattle.program.specs.declared.instruction.Instruction.{Instruction}
use Rattle.program.specs.declared.instruction.Instruction.TheVariants as instruction
use Rattle.program.specs.declared.nesting.Entry.{Entry}
use Rattle.program.specs.declared.nesting.Entry.TheVariants as entry
use Rattle.program.specs.View.{form_of}
use Rattle.program.specs.Nesting.{named, first_broken}
use Rattle.program.specs.Internal.WellFormed.{Passes, at_code_end_closer, at_else_closer, at_again_closer, at_choice_end, at_block_end, ComesTo, closes, at_plain, at_if, at_while, at_atomic, NamesBefore, LeadsBack, LeadBack, Jump, Jumps}
use Rattle.program.proofs.StructureTurn.{comes_to}

-- ---- the scan

module _ {q p : ℕ} where
  -- one turn: the entries' places are inside and the jumps lead inside, if that is so from the next place on
  jumps_turn : {i : Instruction} {is : List Instruction} {es : List Entry} → p < q
      → ((es : List Entry) → LeadBack es → Passes (suc p) is es → NamesBefore q es × Jumps q (suc p) is)
      → LeadBack es → ComesTo p (i ∷ is) es → NamesBefore q es × (Jump q p (form_of i) × Jumps q (suc p) is)
  unfolding NamesBefore LeadsBack LeadBack named form_of
  jumps_turn {es = es} l next f (at_plain e h) = let t = next es f h in (t.0, (subst (Jump q p) (sym e) tt, t.1))
  jumps_turn {es = es} l next f (at_if {n = n} s h) = let t = next (entry.Then (p + n) ∷ es) (tt, f) h in (t.0.1, (t.0.0, t.1))
  jumps_turn {es = es} l next f (at_while {n = n} s h) = let t = next (entry.Loop (p + n) n ∷ es) (omega arith, f) h in (t.0.1, (t.0.0, t.1))
  jumps_turn {es = es} l next f (at_atomic {n = n} s h) = let t = next (entry.Block (p + n) ∷ es) (tt, f) h in (t.0.1, (t.0.0, t.1))
  jumps_turn l next f (closes (at_else_closer {n} {w} {es = es} e h)) = let t = next (entry.Else (p + n) ∷ es) (tt, f.1) (rw e at h) in ((omega arith, t.0.1), (t.0.0, t.1))
  jumps_turn l next f (closes (at_again_closer {n} {w} {es = es} e h)) = let t = next es f.1 (rw e at h) in ((omega arith, t.0), (rw e at f.0, t.1))
  jumps_turn l next f (closes (at_choice_end {w} {es = es} e h)) = let t = next es f.1 (rw e at h) in ((omega arith, t.0), (tt, t.1))
  jumps_turn l next f (closes (at_block_end {w} {es = es} e h)) = let t = next es f.1 (rw e at h) in ((omega arith, t.0), (tt, t.1))

-- at the code's end no entry is open
no_entry : (q : ℕ) {p : ℕ} {es : List Entry} → ComesTo p [] es → NamesBefore q es
unfolding NamesBefore
no_entry q (closes at_code_end_closer) = tt

-- from place p on, to the code's end at q
jumps_all : (q p : ℕ) (is : List Instruction) (es : List Entry) → p + length is ≡ q → LeadBack es → Passes p is es → NamesBefore q es × Jumps q p is
unfolding NamesBefore Jumps
jumps_all q p [] es e f h = (no_entry q (comes_to p [] es h), tt)
jumps_all q p (i ∷ is) es e f h = jumps_turn (omega arith) (λ es f h. jumps_all q (suc p) is es (omega arith) f h) f (comes_to p (i ∷ is) es h)

-- ---- one place

-- the jump at the i-th place from p on
jump_at : (q p : ℕ) (is : List Instruction) (i : ℕ) → i < length is → Jumps q p is → Jump q (p + i) (form_of (get_or is i instruction.End))
unfolding Jumps
jump_at q p [] i l j = absurd (omega arith)
jump_at q p (x ∷ is) zero l j = rw add-zero j.0
jump_at q p (x ∷ is) (suc i) l j = rw (add-suc, ← (suc-add p i)) (jump_at q (suc p) is i (omega arith) j.1)

module _ (is : List Instruction) (h : first_broken 0 is [] ≡ None) (i : ℕ) (l : i < length is) where
  -- the i-th instruction's distance leads to a place of the code
  pub jump : Jump (length is) i (form_of (get_or is i instruction.End))
  unfolding LeadBack
  jump = rw zero-add at (jump_at (length is) 0 is i l (jumps_all (length is) 0 is [] (zero-add (length is)) tt h).1)
