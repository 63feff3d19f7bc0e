-- Structured code that a file can hold (the standard, "The file": nesting), for the theorem that ties the scan of `Nesting` to the
-- trees of `Code`. The first part is what the theorem states; the others are what proofs carry along.
--     flat, WellFormed, depth, Writes           structured code, and the instructions that write it out
--     Passes, Closes, ComesTo                   a scan that passes, and what it has come to
--     Parsed, Body, Parser                      code read from instructions
--     Beyond, NamesBefore, LeadsBack, LeadBack  the places that open entries name
--     Jump, Jumps                               distances that lead to places of the code
use Rattle.std.specs.Prelude.{ℕ, suc, max, ◌+◌, ◌≤◌, ◌<◌, ◌≡◌, List, [], ◌∷◌, ◌++◌, length, None}
use Rattle.program.specs.declared.instruction.Instruction.{Instruction}
use Rattle.program.specs.declared.instruction.Instruction.TheVariants as instruction
use Rattle.program.specs.View.{Form, Plain, If, Else, While, Again, Atomic, End, form_of}
use Rattle.program.specs.declared.nesting.Entry.{Entry}
use Rattle.program.specs.declared.nesting.Entry.TheVariants as entry
use Rattle.program.specs.Nesting.{named, first_broken}
use Rattle.program.specs.Code.{Code, done, plain, choice, loop, block, size}
use Rattle.program.specs.Limits.{entry_limit}

-- ---- what the theorem states

-- the flat writing, distances computed
unfoldable pub flat : Code → List Instruction
flat done = []
flat (plain i c) = i ∷ flat c
flat (choice r a b c) = instruction.If r (size a + 1) ∷ flat a ++ (instruction.Else (size b + 1) ∷ flat b ++ (instruction.End ∷ flat c))
flat (loop r a c) = instruction.While r (size a + 1) ∷ flat a ++ (instruction.Again (size a + 1) ∷ flat c)
flat (block stated a c) = instruction.Atomic stated (size a + 1) ∷ flat a ++ (instruction.End ∷ flat c)

-- each plain instruction is neither an opener nor a closer
unfoldable pub WellFormed : Code → Type 0
WellFormed done = Unit
WellFormed (plain i c) = (form_of i ≡ Plain) × WellFormed c
WellFormed (choice r a b c) = WellFormed a × WellFormed b × WellFormed c
WellFormed (loop r a c) = WellFormed a × WellFormed c
WellFormed (block stated a c) = WellFormed a × WellFormed c

-- how many entries are open at once, at most
unfoldable pub depth : Code → ℕ
depth done = 0
depth (plain i c) = depth c
depth (choice r a b c) = max (suc (max (depth a) (depth b))) (depth c)
depth (loop r a c) = max (suc (depth a)) (depth c)
depth (block stated a c) = max (suc (depth a)) (depth c)

-- these instructions write out this code, and no 17th entry opens
pub record Writes (is : List Instruction) (c : Code) : Type 0 where
  pub flat_is : flat c ≡ is
  pub well_formed : WellFormed c
  pub shallow : depth c ≤ entry_limit

-- ---- what its proofs carry along: a scan that passes, turn by turn

-- from place p on, with these entries open
abbrev pub Passes : ℕ → List Instruction → List Entry → Type 0
Passes p is es = first_broken p is es ≡ None

-- it has come to the code's end or to a closer: what stands there, which entry it closes, and how it goes on
pub data Closes (p : ℕ) : List Instruction → List Entry → Type 0 where
  at_code_end_closer : Closes p [] []
  at_else_closer : {n w : ℕ} {is : List Instruction} {es : List Entry} → w ≡ p → Passes (suc w) is (entry.Else (w + n) ∷ es)
      → Closes p (instruction.Else n ∷ is) (entry.Then w ∷ es)
  at_again_closer : {n w : ℕ} {is : List Instruction} {es : List Entry} → w ≡ p → Passes (suc w) is es
      → Closes p (instruction.Again n ∷ is) (entry.Loop w n ∷ es)
  at_choice_end : {w : ℕ} {is : List Instruction} {es : List Entry} → w ≡ p → Passes (suc w) is es
      → Closes p (instruction.End ∷ is) (entry.Else w ∷ es)
  at_block_end : {w : ℕ} {is : List Instruction} {es : List Entry} → w ≡ p → Passes (suc w) is es
      → Closes p (instruction.End ∷ is) (entry.Block w ∷ es)

-- it has come to any place
pub data ComesTo (p : ℕ) : List Instruction → List Entry → Type 0 where
  closes : {is : List Instruction} {es : List Entry} → Closes p is es → ComesTo p is es
  at_plain : {i : Instruction} {is : List Instruction} {es : List Entry} → form_of i ≡ Plain → Passes (suc p) is es → ComesTo p (i ∷ is) es
  at_if : {r n : ℕ} {is : List Instruction} {es : List Entry} → length es < entry_limit → Passes (suc p) is (entry.Then (p + n) ∷ es)
      → ComesTo p (instruction.If r n ∷ is) es
  at_while : {r n : ℕ} {is : List Instruction} {es : List Entry} → length es < entry_limit → Passes (suc p) is (entry.Loop (p + n) n ∷ es)
      → ComesTo p (instruction.While r n ∷ is) es
  at_atomic : {a n : ℕ} {is : List Instruction} {es : List Entry} → length es < entry_limit → Passes (suc p) is (entry.Block (p + n) ∷ es)
      → ComesTo p (instruction.Atomic a n ∷ is) es

-- ---- code read from instructions

-- those from place p on, up to the closer of the innermost entry or the code's end
pub record Parsed (p : ℕ) (is : List Instruction) (es : List Entry) : Type 0 where
  pub code : Code
  pub rest : List Instruction
  pub split : flat code ++ rest ≡ is
  pub well_formed : WellFormed code
  pub shallow : length es + depth code ≤ entry_limit
  pub stops : Closes (p + size code) rest es

-- those from place q on, which follow an opener, up to its closer i at place w; the scan goes on with the entries es'
pub record Body (q w : ℕ) (is : List Instruction) (es es' : List Entry) (i : Instruction) : Type 0 where
  pub code : Code
  pub after : List Instruction
  pub split : flat code ++ (i ∷ after) ≡ is
  pub well_formed : WellFormed code
  pub shallow : suc (length es) + depth code ≤ entry_limit
  pub place : w ≡ q + size code
  pub passes : Passes (suc w) after es'

-- what reads every list of less than k instructions
abbrev pub Parser : ℕ → Type 0
Parser k = (p : ℕ) (is : List Instruction) (es : List Entry) → length is < k → length es ≤ entry_limit → Passes p is es → Parsed p is es

-- ---- named places and jumps

-- the innermost entry names a place from q on
unfoldable pub Beyond : ℕ → List Entry → Type 0
Beyond q [] = Unit
Beyond q (e ∷ es) = q ≤ named e

-- every entry names a place before q
unfoldable pub NamesBefore : ℕ → List Entry → Type 0
NamesBefore q [] = Unit
NamesBefore q (e ∷ es) = (named e < q) × NamesBefore q es

-- a WHILE's distance does not lead from the place that it names to before the code
unfoldable pub LeadsBack : Entry → Type 0
LeadsBack (entry.Then w) = Unit
LeadsBack (entry.Else w) = Unit
LeadsBack (entry.Loop w n) = n ≤ w
LeadsBack (entry.Block w) = Unit

unfoldable pub LeadBack : List Entry → Type 0
LeadBack [] = Unit
LeadBack (e ∷ es) = LeadsBack e × LeadBack es

-- at place p of q instructions: the place that the distance leads to is one of theirs
abbrev pub Jump : ℕ → ℕ → Form → Type 0
Jump q p Plain = Unit
Jump q p (If r n) = p + n < q
Jump q p (Else n) = p + n < q
Jump q p (While r n) = p + n < q
Jump q p (Again n) = n ≤ p
Jump q p (Atomic n) = p + n < q
Jump q p End = Unit

-- those from place p on
unfoldable pub Jumps : ℕ → ℕ → List Instruction → Type 0
Jumps q p [] = Unit
Jumps q p (i ∷ is) = Jump q p (form_of i) × Jumps q (suc p) is
