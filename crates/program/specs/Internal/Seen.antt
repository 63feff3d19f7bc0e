-- All instructions once more, for what proofs ask of each: what the rules see of it, and the registers that it names.
--     Seen            a local instruction, with the registers that it names; an access, an opener or a closer by its constructor
--     seen            each is one of these
--     registers_of    the registers that one names
--     AreRegisters, RegistersGood
--                     numbers of registers that there are; an instruction names no others
use Rattle.std.specs.Prelude.{ℕ, ◌<◌, ◌≡◌, refl, List, [], ◌∷◌}
use Rattle.program.specs.View.{own, view_of}
use Rattle.program.specs.Limits.{register_count}
use Rattle.program.specs.declared.instruction.Instruction.{Instruction}
use Rattle.program.specs.declared.instruction.Instruction.TheVariants.{Set, Copy, Add, Sub, Less, Read, Write, Take, Give, If, Else, While, Again, Atomic, End, Mulh, Lesss}

pub data Seen : Instruction → Type 0 where
  seen_local : {i : Instruction} (registers : List ℕ) → view_of i ≡ own → Seen i
  seen_read : {a v : ℕ} → Seen (Read a v)
  seen_write : {a v : ℕ} → Seen (Write a v)
  seen_take : {k : ℕ} → Seen (Take k)
  seen_give : {k : ℕ} → Seen (Give k)
  seen_if : {a n : ℕ} → Seen (If a n)
  seen_else : {n : ℕ} → Seen (Else n)
  seen_while : {a n : ℕ} → Seen (While a n)
  seen_again : {n : ℕ} → Seen (Again n)
  seen_atomic : {a n : ℕ} → Seen (Atomic a n)
  seen_end : Seen End

abbrev pub seen : (i : Instruction) → Seen i
seen (Set a n) = seen_local (a ∷ []) refl
seen (Copy a b) = seen_local (a ∷ b ∷ []) refl
seen (Add a b c) = seen_local (a ∷ b ∷ c ∷ []) refl
seen (Sub a b c) = seen_local (a ∷ b ∷ c ∷ []) refl
seen (Less a b c) = seen_local (a ∷ b ∷ c ∷ []) refl
seen (Read a v) = seen_read
seen (Write a v) = seen_write
seen (Take k) = seen_take
seen (Give k) = seen_give
seen (If a n) = seen_if
seen (Else n) = seen_else
seen (While a n) = seen_while
seen (Again n) = seen_again
seen (Atomic a n) = seen_atomic
seen End = seen_end
seen (Mulh a b c) = seen_local (a ∷ b ∷ c ∷ []) refl
seen (Lesss a b c) = seen_local (a ∷ b ∷ c ∷ []) refl

-- "Registers are r0 to r7"
abbrev pub AreRegisters : List ℕ → Type 0
AreRegisters [] = Unit
AreRegisters (a ∷ rs) = (a < register_count) × AreRegisters rs

abbrev pub registers_of : {i : Instruction} → Seen i → List ℕ
registers_of (seen_local rs e) = rs
registers_of (seen_read {a} {v}) = a ∷ []
registers_of (seen_write {a} {v}) = a ∷ []
registers_of seen_take = []
registers_of seen_give = []
registers_of (seen_if {a} {n}) = a ∷ []
registers_of seen_else = []
registers_of (seen_while {a} {n}) = a ∷ []
registers_of seen_again = []
registers_of seen_atomic = []
registers_of seen_end = []

abbrev pub RegistersGood : Instruction → Type 0
RegistersGood i = AreRegisters (registers_of (seen i))
