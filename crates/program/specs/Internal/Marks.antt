-- The table of writers that walk 1 fills (src/walk.rt): a byte for each variable, with a bit for each code that has a WRITE of it.
--     write_row      the row of WRITE
--     besides        a byte has a bit besides one
--     marked_at, marked, marked_all
--                    a variable, an instruction's, and those of a code, with this bit
--     marked_codes   the codes from number n on, each with its bit
--     writer_table   all codes of a program, from an empty table
--     codes_in       a file's codes
use Rattle.std.specs.Prelude.{ℕ, suc, ◌/◌, ◌^◌, Bool, not, List, [], ◌∷◌, eqb, get_or, set, replicate}
use Rattle.std.specs.Int.Bits.{bit_or}
use Rattle.program.specs.Field.{byte_at, pair_at}
use Rattle.program.specs.Layout.{Program, CodeSection, codes_at}
use Rattle.program.specs.Limits.{variable_size, variable_limit, record_offset}
use Rattle.program.specs.View.{Access, none, reads, writes, takes, gives, access_of}
use Rattle.program.specs.declared.instruction.Instruction.{Instruction}

abbrev pub write_row : ℕ
write_row = 7

-- with this bit added it is more than the bit alone
abbrev pub besides : (bit byte : ℕ) → Bool
besides bit byte = not (eqb (bit_or byte bit) bit)

abbrev pub marked_at : (bit v : ℕ) → List ℕ → List ℕ
marked_at bit v table = set table v (bit_or (get_or table v 0) bit)

abbrev pub marked : (bit : ℕ) → Access → List ℕ → List ℕ
marked bit none table = table
marked bit (reads v) table = table
marked bit (writes v a) table = marked_at bit v table
marked bit (takes k) table = table
marked bit (gives k) table = table

unfoldable pub marked_all : (bit : ℕ) → List Instruction → List ℕ → List ℕ
marked_all bit [] table = table
marked_all bit (i ∷ is) table = marked_all bit is (marked bit (access_of i) table)

unfoldable pub marked_codes : (n : ℕ) → List CodeSection → List ℕ → List ℕ
marked_codes n [] table = table
marked_codes n (x ∷ xs) table = marked_codes (suc n) xs (marked_all (2 ^ n) x.code table)

abbrev pub writer_table : Program → List ℕ
writer_table p = marked_codes 0 p.codes (replicate variable_limit 0)

-- the codes of a file whose counts are right
abbrev pub codes_in : List ℕ → List CodeSection
codes_in s = let n = pair_at s 3 / variable_size in codes_at (byte_at s 1) n s (byte_at s 2) (record_offset n)
