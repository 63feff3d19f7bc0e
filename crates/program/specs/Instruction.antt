-- The table of op codes (the standard, "The file": "An instruction has 4 bytes: op, a, b, c"; "Who can bring a number about": 7).
use Rattle.std.specs.Prelude.{ℕ, ◌+◌, ◌*◌, Bool, true, false, ◌&&◌, List, [], ◌∷◌, ltb, eqb}
use Rattle.program.specs.Choice.{choose}
use Rattle.program.specs.Field.{byte_at}
use Rattle.program.specs.Limits.{register_count, statement_limit}
use Rattle.program.specs.declared.instruction.Instruction.{Instruction}
use Rattle.program.specs.declared.instruction.Instruction.TheVariants.{Set, Copy, Add, Sub, Less, Read, Write, Take, Give, If, Else, While, Again, Atomic, End, Mulh, Lesss}

-- what the four bytes of an instruction say
pub data Decoded : Type 0 where
  Valid : Instruction → Decoded
  Invalid : Decoded

-- what a field of an instruction must be: a register, variable or lock that there is, 0, a part of n, or what an ATOMIC can state
pub data FieldKind : Type 0 where
  register variable lock zero part statement : FieldKind

-- "Registers are r0 to r7"; "Every lock, variable .. named must lie below its count"; "A field not mentioned is 0"; "Field a of ATOMIC may
-- hold the report byte of its block's atomicity, 1 to 4; 0 means not stated"
abbrev pub is_right : (locks variables : ℕ) → FieldKind → ℕ → Bool
is_right locks variables register x = ltb x register_count
is_right locks variables variable x = ltb x variables
is_right locks variables lock x = ltb x locks
is_right locks variables zero x = eqb x 0
is_right locks variables part x = true
is_right locks variables statement x = ltb x statement_limit

-- a row of the table: op code, what its fields a, b, c must be, the instruction
pub record TableRow : Type 0 where
  pub op : ℕ
  pub a : FieldKind
  pub b : FieldKind
  pub c : FieldKind
  pub instruction : Instruction

abbrev pub row : ℕ → (a b c : FieldKind) → Instruction → TableRow
row op a b c i = record { op = op; a = a; b = b; c = c; instruction = i }

-- the table, for fields a, b, c. n is b times 256 plus c
abbrev pub table : (a b c : ℕ) → List TableRow
table a b c =
    let n = b * 256 + c in
    row 0x01 register part part (Set a n)
    ∷ row 0x02 register register zero (Copy a b)
    ∷ row 0x03 register register register (Add a b c)
    ∷ row 0x04 register register register (Sub a b c)
    ∷ row 0x05 register register register (Less a b c)
    ∷ row 0x10 register variable zero (Read a b)
    ∷ row 0x11 register variable zero (Write a b)
    ∷ row 0x20 lock zero zero (Take a)
    ∷ row 0x21 lock zero zero (Give a)
    ∷ row 0x30 register part part (If a n)
    ∷ row 0x31 zero part part (Else n)
    ∷ row 0x32 register part part (While a n)
    ∷ row 0x33 zero part part (Again n)
    ∷ row 0x34 statement part part (Atomic a n)
    ∷ row 0x35 zero zero zero End
    ∷ row 0x07 register register register (Mulh a b c)
    ∷ row 0x08 register register register (Lesss a b c)
    ∷ []

-- "7: unknown op, or a register, variable, lock, statement or zero field wrong"
abbrev pub is_right_row : (locks variables a b c : ℕ) → TableRow → Bool
is_right_row locks variables a b c r = is_right locks variables r.a a && is_right locks variables r.b b && is_right locks variables r.c c

-- the row of an op code, if its fields are right
abbrev pub look_up : (locks variables op a b c : ℕ) → List TableRow → Decoded
look_up locks variables op a b c [] = Invalid
look_up locks variables op a b c (r ∷ rs) =
    choose (eqb op r.op) (choose (is_right_row locks variables a b c r) (Valid r.instruction) Invalid) (look_up locks variables op a b c rs)

unfoldable pub decode : (locks variables op a b c : ℕ) → Decoded
decode locks variables op a b c = look_up locks variables op a b c (table a b c)

abbrev pub is_valid : Decoded → Bool
is_valid (Valid i) = true
is_valid Invalid = false

-- the instruction that valid bytes say
abbrev pub decoded_instruction : Decoded → Instruction
decoded_instruction (Valid i) = i
decoded_instruction Invalid = End

-- the four bytes at an offset
unfoldable pub decode_at : (locks variables : ℕ) → List ℕ → ℕ → Decoded
decode_at locks variables s at = decode locks variables (byte_at s at) (byte_at s (at + 1)) (byte_at s (at + 2)) (byte_at s (at + 3))
