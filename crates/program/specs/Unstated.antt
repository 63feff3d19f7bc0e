-- A sound file with its statements taken out (the standard, "What is promised": "A file with its statements taken out, field a of every
-- ATOMIC made 0"). No call asks for it: it is there to say that a statement changes no report and no run.
use Rattle.std.specs.Prelude.{ℕ, zero, suc, ◌+◌, ◌*◌, ◌/◌, Bool, false, ◌&&◌, ◌||◌, List, [], ◌∷◌, eqb}
use Rattle.program.specs.Choice.{choose}
use Rattle.program.specs.Field.{byte_at, pair_at}
use Rattle.program.specs.Limits.{instruction_size, variable_size, record_offset}

-- the byte at offset d is field a of an ATOMIC, one of the n instructions from an offset on
unfoldable pub is_statement_among : List ℕ → (n at d : ℕ) → Bool
is_statement_among s zero at d = false
is_statement_among s (suc n) at d = eqb d (at + 1) && eqb (byte_at s at) 0x34 || is_statement_among s n (at + instruction_size) d

-- ... of n code sections, the first one's length field at an offset
unfoldable pub is_statement_in : List ℕ → (n at d : ℕ) → Bool
is_statement_in s zero at d = false
is_statement_in s (suc n) at d =
    let count = pair_at s at / instruction_size in
    is_statement_among s count (at + 2) d || is_statement_in s n (at + 2 + instruction_size * count) d

-- ... of the file
unfoldable pub is_statement : List ℕ → (d : ℕ) → Bool
is_statement s d = is_statement_in s (byte_at s 2) (record_offset (pair_at s 3 / variable_size)) d

-- the bytes of the file s from offset d on
unfoldable pub cleared_from : (s : List ℕ) (d : ℕ) → List ℕ → List ℕ
cleared_from s d [] = []
cleared_from s d (b ∷ bs) = choose (is_statement s d) 0 b ∷ cleared_from s (suc d) bs

unfoldable pub without_statements : List ℕ → List ℕ
without_statements s = cleared_from s 0 s
