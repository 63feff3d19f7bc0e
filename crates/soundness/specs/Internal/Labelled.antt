-- Structured code with a label at each instruction, and the moves from label to label. What a label is, and what holds of each move,
-- is said where labels are used: no place and no distance occurs there (`proofs/Labelled.antt`, `moves`). Only the proof of demand 3
-- speaks of it.
--     Condition, Meets         the registers with which a move is made
--     Tree                     labels for the instructions of code
--     Row, row, Edge, edge     an instruction with its label; a move to a label
--     rows, label_at, begins   the flat writing, and its labels by place
--     edges                    the moves of code
--     Arrives, MovesFrom       the machine goes along an edge
use Rattle.std.specs.Prelude.{ℕ, ◌+◌, ◌≤◌, ◌≡◌, ◌≢◌, List, [], ◌∷◌, ◌++◌, get_or}
use Rattle.machine.specs.Step.{reg, place_after}
use Rattle.program.specs.Code.{Code, size}
use Rattle.program.specs.Code as code
use Rattle.program.specs.View.{form_of, Plain}
use Rattle.program.specs.declared.instruction.Instruction.{Instruction}
use Rattle.program.specs.declared.instruction.Instruction.TheVariants.{If, Else, While, Again, Atomic, End}

-- the registers with which a move is made
pub data Condition : Type 0 where
  always : Condition
  if_zero if_not_zero : (register : ℕ) → Condition

pub data Meets (registers : List ℕ) : Condition → Type 0 where
  meets_always : Meets registers always
  meets_zero : {a : ℕ} → reg registers a ≡ 0 → Meets registers (if_zero a)
  meets_not_zero : {a : ℕ} → reg registers a ≢ 0 → Meets registers (if_not_zero a)

-- labels for the instructions of the code, in the order of the flat writing
pub data Tree (L : Type 0) : Code → Type 0 where
  done : Tree L code.done
  plain : {i : Instruction} {c : Code} (here : L) → form_of i ≡ Plain → Tree L c → Tree L (code.plain i c)
  choice : {r : ℕ} {a b c : Code} (here else end : L) → Tree L a → Tree L b → Tree L c → Tree L (code.choice r a b c)
  loop : {r : ℕ} {a c : Code} (here again : L) → Tree L a → Tree L c → Tree L (code.loop r a c)
  block : {n : ℕ} {a c : Code} (here end : L) → Tree L a → Tree L c → Tree L (code.block n a c)

-- an instruction with its label
pub record Row (L : Type 0) : Type 0 where
  pub instruction : Instruction
  pub label : L

-- a move from a row to a label
pub record Edge (L : Type 0) : Type 0 where
  pub from : Row L
  pub condition : Condition
  pub to : L

module _ {L : Type 0} where
  abbrev pub row : Instruction → L → Row L
  row i x = record { instruction = i; label = x }

  abbrev pub edge : Instruction → L → Condition → L → Edge L
  edge i x o y = record { from = row i x; condition = o; to = y }

  -- the flat writing
  unfoldable pub rows : {c : Code} → Tree L c → List (Row L)
  rows done = []
  rows (plain {i} x f u) = row i x ∷ rows u
  rows (choice {r} {a} {b} x y z u v w) =
      row (If r (size a + 1)) x ∷ rows u ++ (row (Else (size b + 1)) y ∷ rows v ++ (row End z ∷ rows w))
  rows (loop {r} {a} x y u v) = row (While r (size a + 1)) x ∷ rows u ++ (row (Again (size a + 1)) y ∷ rows v)
  rows (block {n} {a} x y u v) = row (Atomic n (size a + 1)) x ∷ rows u ++ (row End y ∷ rows v)

  -- the label at a place; `next` is the one behind the code
  abbrev pub label_at : {c : Code} → Tree L c → (next : L) → ℕ → L
  label_at u next q = (get_or (rows u) q (row End next)).label

  -- the label where code begins that `next` follows
  abbrev pub begins : {c : Code} → Tree L c → (next : L) → L
  begins done next = next
  begins (plain x f u) next = x
  begins (choice x y z u v w) next = x
  begins (loop x y u v) next = x
  begins (block x y u v) next = x

  -- the moves
  unfoldable pub edges : {c : Code} → Tree L c → (next : L) → List (Edge L)
  edges done next = []
  edges (plain {i} x f u) next = edge i x always (begins u next) ∷ edges u next
  edges (choice {r} {a} {b} x y z u v w) next =
      edge (If r (size a + 1)) x (if_not_zero r) (begins u y) ∷ edge (If r (size a + 1)) x (if_zero r) (begins v z)
      ∷ edge (Else (size b + 1)) y always z ∷ edge End z always (begins w next)
      ∷ edges u y ++ (edges v z ++ edges w next)
  edges (loop {r} {a} x y u v) next =
      edge (While r (size a + 1)) x (if_not_zero r) (begins u y) ∷ edge (While r (size a + 1)) x (if_zero r) (begins v next)
      ∷ edge (Again (size a + 1)) y always x
      ∷ edges u y ++ edges v next
  edges (block {n} {a} x y u v) next =
      edge (Atomic n (size a + 1)) x always (begins u y) ∷ edge End y always (begins v next) ∷ edges u y ++ edges v next

  -- from a row, with these registers, to a place at or before the last, by an edge that is P and whose condition holds
  pub record Arrives (P : Edge L → Type 0) (label_at : ℕ → L) (last : ℕ) (from : Row L) (registers : List ℕ) (to : ℕ) : Type 0 where
    pub condition : Condition
    pub holds : Meets registers condition
    pub along : P (record { from = from; condition = condition; to = label_at to })
    pub within : to ≤ last

  -- whatever the registers, the machine so arrives from place q, where this row is
  abbrev pub MovesFrom : (Edge L → Type 0) → (ℕ → L) → (last : ℕ) → Row L → ℕ → Type 0
  MovesFrom P label_at last from q = (registers : List ℕ) → Arrives P label_at last from registers (place_after from.instruction registers q)
