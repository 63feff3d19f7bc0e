-- Structured code: what well nested code is the flat writing of (the standard, "The file", "Atomicities": sequence, IF, WHILE, ATOMIC).
use Rattle.std.specs.Prelude.{ℕ, zero, suc, ◌+◌, ◌-◌, List, [], ◌∷◌, length, get_or, take, drop}
use Rattle.program.specs.declared.instruction.Instruction.{Instruction}
use Rattle.program.specs.declared.instruction.Instruction.TheVariants as instruction
use Rattle.program.specs.View.{Form, Plain, If, Else, While, Again, Atomic, End, form_of, statement_of}

-- each construct carries what follows it, and a block what its ATOMIC states
pub data Code : Type 0 where
  done : Code
  plain : Instruction → Code → Code
  choice : ℕ → Code → Code → Code → Code
  loop : ℕ → Code → Code → Code
  block : (stated : ℕ) → Code → Code → Code

-- how many instructions it is written with
unfoldable pub size : Code → ℕ
size done = 0
size (plain i c) = 1 + size c
size (choice r a b c) = 1 + size a + 1 + size b + 1 + size c
size (loop r a c) = 1 + size a + 1 + size c
size (block stated a c) = 1 + size a + 1 + size c

-- the distance of the ELSE at a place
unfoldable pub else_distance : Form → ℕ
else_distance Plain = 0
else_distance (If a n) = 0
else_distance (Else n) = n
else_distance (While a n) = 0
else_distance (Again n) = 0
else_distance (Atomic n) = 0
else_distance End = 0

-- the structured code that well nested code writes out, read by the distances; the first number bounds the recursion and is at least
-- the length
unfoldable pub structure : ℕ → List Instruction → Code
structure zero is = done
structure (suc k) [] = done
structure (suc k) (i ∷ is) = elim (form_of i) [
  | Plain ↦ plain i (structure k is)
  | If r n ↦
      let m = else_distance (form_of (get_or is (n - 1) instruction.End)) in
      choice r (structure k (take (n - 1) is)) (structure k (take (m - 1) (drop n is))) (structure k (drop (n + m) is))
  | Else n ↦ plain i (structure k is)
  | While r n ↦ loop r (structure k (take (n - 1) is)) (structure k (drop n is))
  | Again n ↦ plain i (structure k is)
  | Atomic n ↦ block (statement_of i) (structure k (take (n - 1) is)) (structure k (drop n is))
  | End ↦ plain i (structure k is)
]

unfoldable pub structured : List Instruction → Code
structured is = structure (length is) is
