-- What is promised of statements (the standard, "What is promised": "In an accepted file every statement is true: field a of each ATOMIC is
-- 0 or its report byte").
use Rattle.std.specs.Prelude.{ℕ, ◌+◌, ◌<◌, ◌≡◌, ◌⊎◌, List, [], ◌∷◌, length, get_or, drop}
use Rattle.program.specs.Layout.{CodeSection}
use Rattle.program.specs.View.{statement_of}
use Rattle.program.specs.declared.instruction.Instruction.{Instruction}
use Rattle.program.specs.declared.instruction.Instruction.TheVariants.{End}

-- an instruction with this report byte states nothing, or the byte
abbrev pub IsTrue : Instruction → (byte : ℕ) → Type 0
IsTrue i byte = (statement_of i ≡ 0) ⊎ (statement_of i ≡ byte)

-- each instruction of some codes; their reports stand one after the other, with a byte for each whole code
unfoldable pub AllTrue : List CodeSection → (report : List ℕ) → Type 0
AllTrue [] report = Unit
AllTrue (x ∷ xs) report =
    ((place : ℕ) → place < length x.code → IsTrue (get_or x.code place End) (get_or report place 0)) × AllTrue xs (drop (length x.code + 1) report)
