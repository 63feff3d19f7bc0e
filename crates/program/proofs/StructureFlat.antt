-- The flat writing of structured code. Assumes nothing.
--     length-flat                         it has as many instructions as the code's size says
--     take-flat, get_or-flat, drop-flat   the part that a distance measures off, its closer, and what is behind that
--     structure_flat, structured_flat     read back, it gives the code
use Prim.Native.Nat.{ℕ, zero, suc, ◌+◌, ◌-◌, ◌≤◌}
use native.Mathlib.Omega.{arith}
use mathlib.Core.Path.{◌≡◌, refl, ap, ◌∙◌}
use mathlib.Core.List.{List, ◌∷◌, ◌++◌}
use lib.ListN.{length, get_or, take, drop, length-append}
use lib.Seq.{take_at, get_or_at, drop-append-add, drop-drop}
use Rattle.program.specs.declared.instruction.Instruction.{Instruction}
use Rattle.program.specs.declared.instruction.Instruction.TheVariants.{Else, Again, End}
use Rattle.program.specs.View.{Plain, form_of, statement_of}
use Rattle.program.specs.Code.{Code, done, plain, choice, loop, block, size, else_distance, structure, structured}
use Rattle.program.specs.Internal.WellFormed.{flat, WellFormed}

-- it has as many instructions as the code's size says
pub length-flat : (c : Code) → length (flat c) ≡ size c
unfolding flat size
length-flat done = refl
length-flat (plain i c) = omega (arith, length-flat c)
length-flat (choice r a b c) = simp (length-append, length-flat a, length-flat b, length-flat c) (omega arith)
length-flat (loop r a c) = simp (length-append, length-flat a, length-flat c) (omega arith)
length-flat (block stated a c) = simp (length-append, length-flat a, length-flat c) (omega arith)

-- the part that a distance measures off, the closer behind it, and what is behind the closer
take-flat : (c : Code) (is : List Instruction) → take (size c + 1 - 1) (flat c ++ is) ≡ flat c
take-flat c is = take_at (flat c) is (size c + 1 - 1) (omega (arith, length-flat c))

get_or-flat : (c : Code) (i : Instruction) (is : List Instruction) → get_or (flat c ++ (i ∷ is)) (size c + 1 - 1) End ≡ i
get_or-flat c i is = get_or_at (flat c) i is End (size c + 1 - 1) (omega (arith, length-flat c))

drop-flat : (c : Code) (i : Instruction) (is : List Instruction) → drop (size c + 1) (flat c ++ (i ∷ is)) ≡ is
drop-flat c i is = rw (← (length-flat c), drop-append-add (flat c) (i ∷ is) 1)

-- a plain instruction is read as such
structure_plain : (i : Instruction) (is : List Instruction) (k : ℕ) → form_of i ≡ Plain → structure (suc k) (i ∷ is) ≡ plain i (structure k is)
unfolding structure
structure_plain i is k e = rw (e, structure)

-- read back, the flat writing gives the code; whatever bounds the recursion, if it is at least the length
structure_flat : (c : Code) (k : ℕ) → WellFormed c → size c ≤ k → structure k (flat c) ≡ c
unfolding structure flat size WellFormed form_of statement_of else_distance
structure_flat done zero w l = refl
structure_flat done (suc k) w l = refl
structure_flat (plain i c) zero w l = absurd (omega arith)
structure_flat (plain i c) (suc k) w l = structure_plain i (flat c) k w.0 ∙ ap (plain i) (structure_flat c k w.1 (omega arith))
structure_flat (choice r a b c) zero w l = absurd (omega arith)
structure_flat (choice r a b c) (suc k) w l =
    let else = Else (size b + 1) in
    let after = flat b ++ (End ∷ flat c) in
    rw (
      get_or-flat a else after,
      ← (drop-drop (size b + 1) (size a + 1) (flat a ++ (else ∷ after))),
      take-flat a (else ∷ after),
      drop-flat a else after,
      take-flat b (End ∷ flat c),
      drop-flat b End (flat c),
      structure_flat a k w.0 (omega arith),
      structure_flat b k w.1 (omega arith),
      structure_flat c k w.2 (omega arith),
    )
structure_flat (loop r a c) zero w l = absurd (omega arith)
structure_flat (loop r a c) (suc k) w l =
    rw (
      take-flat a (Again (size a + 1) ∷ flat c),
      drop-flat a (Again (size a + 1)) (flat c),
      structure_flat a k w.0 (omega arith),
      structure_flat c k w.1 (omega arith),
    )
structure_flat (block stated a c) zero w l = absurd (omega arith)
structure_flat (block stated a c) (suc k) w l =
    rw (take-flat a (End ∷ flat c), drop-flat a End (flat c), structure_flat a k w.0 (omega arith), structure_flat c k w.1 (omega arith))

-- so the flat writing of two codes differs if they do
pub structured_flat : (c : Code) → WellFormed c → structured (flat c) ≡ c
unfolding structured
structured_flat c w = structure_flat c (length (flat c)) w (omega (arith, length-flat c))
