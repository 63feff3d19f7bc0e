-- The code sections of the threads, one at a time. Assumes nothing.
--     added            a number added to what is answered
--     added_nothing    nothing added yet
--     added_section    a section is added
--     added_refused    a section is refused
--     added_all        none is left
--     section_by_section  ... with the laws of the table of writers, for the loop over the threads
use Prim.Native.Nat.{ℕ, suc, ◌+◌, ◌-◌, ◌<◌, ◌≤◌}
use mathlib.Core.Path.{◌≡◌, refl}
use mathlib.Core.List.{List}
use native.Mathlib.Nat.{zero-add, add-zero, add_assoc}
use native.Mathlib.Omega.{arith}
use Rattle.program.specs.Answer.{Answer, ◌>>=◌}
use Rattle.std.specs.Prelude.{Ok, Err}
use Rattle.program.specs.Layout.{code_section, code_sections}
use Rattle.program.proofs.MarkedParts.{code_bit, codes_next, codes_done}
use Rattle.program.proofs.ReadBack.{code_value}
use Rattle.program.specs.declared.cursor.Cursor.{Cursor}
use Rattle.program.specs.declared.refusal.Refusal.{Refusal}

-- a number added to what is answered
abbrev pub added : ℕ → Answer (ℕ × Cursor) → Answer (ℕ × Cursor)
added total m = m >>= (λ x. Ok (total + x.0, x.1))

-- nothing added yet
pub added_nothing : (m : Answer (ℕ × Cursor)) → added 0 m ≡ m
added_nothing (Ok x) = rw zero-add
added_nothing (Err r) = refl

added_twice : (total count : ℕ) (m : Answer (ℕ × Cursor)) → added total (added count m) ≡ added (total + count) m
added_twice total count (Ok x) = rw add_assoc
added_twice total count (Err r) = refl

module _ (locks variables : ℕ) (s : List ℕ) (total n t : ℕ) (c : Cursor) where
  left : t < n → n - t ≡ suc (n - (t + 1))
  left h = omega arith

  -- a section is added
  pub added_section : (count : ℕ) (d : Cursor) → t < n → code_section locks variables s c ≡ Ok (count, d)
      → added total (code_sections locks variables s (n - t) c) ≡ added (total + count) (code_sections locks variables s (n - (t + 1)) d)
  unfolding code_sections
  added_section count d h e = rw (left h, e) (added_twice total count (code_sections locks variables s (n - (t + 1)) d))

  -- a section is refused
  pub added_refused : (r : Refusal) → t < n → code_section locks variables s c ≡ Err r
      → added total (code_sections locks variables s (n - t) c) ≡ Err r
  unfolding code_sections
  added_refused r h e = rw (left h, e)

  -- none is left
  pub added_all : n ≤ t → added total (code_sections locks variables s (n - t) c) ≡ Ok (total, c)
  unfolding code_sections
  added_all h = let none : n - t ≡ 0 = omega arith in rw (none, add-zero)

pub ruleset section_by_section = (added_nothing, added_section, added_refused, added_all, code_value, code_bit, codes_next, codes_done)
