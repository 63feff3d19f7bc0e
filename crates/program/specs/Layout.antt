-- The whole file, front to back (the standard, "The file"; "Who can bring a number about": the sender's part), and what a sound file
-- holds.
use Rattle.std.specs.Prelude.{ℕ, zero, suc, ◌+◌, ◌*◌, ◌/◌, ◌&&◌, List, [], ◌∷◌, length, get_or, leb, eqb, Option, Some, None, Ok}
use Rattle.program.specs.Answer.{Answer, ◌>>=◌, ◌>>◌, require, require_none}
use Rattle.program.specs.Choice.{first_bad}
use Rattle.program.specs.Field.{cursor, byte_at, pair_at, byte_field, section}
use Rattle.program.specs.Variable.{Variable, record_at, variable_at}
use Rattle.program.specs.Variable
use Rattle.program.specs.Instruction.{decode_at, decoded_instruction}
use Rattle.program.specs.Instruction
use Rattle.program.specs.Limits.{lock_limit, thread_limit, variable_size, instruction_size, variable_section_limit, code_section_limit, records_start, record_offset}
use Rattle.program.specs.Nesting.{first_broken}
use Rattle.program.specs.declared.cursor.Cursor.{Cursor}
use Rattle.program.specs.declared.instruction.Instruction.{Instruction}
use Rattle.program.specs.declared.layout.Layout.{Layout}
use Rattle.program.specs.declared.refusal.Refusal.TheVariants.{Version, Count, LeftOver, Record, Nesting}
use Rattle.program.specs.declared.refusal.Refusal.TheVariants as refusal

-- Contents

-- the n instructions from an offset on
unfoldable pub instructions_at : (locks variables : ℕ) → List ℕ → ℕ → ℕ → List Instruction
instructions_at locks variables s zero at = []
instructions_at locks variables s (suc n) at = decoded_instruction (decode_at locks variables s at) ∷ instructions_at locks variables s n (at + instruction_size)

-- the n variable records from an offset on
unfoldable pub variables_at : (locks threads : ℕ) → List ℕ → ℕ → ℕ → List Variable
variables_at locks threads s zero at = []
variables_at locks threads s (suc n) at = variable_at locks threads s at ∷ variables_at locks threads s n (at + variable_size)

-- a code section: the offset of its first instruction, and its instructions
pub record CodeSection : Type 0 where
  pub start : ℕ
  pub code : List Instruction

-- n code sections, the first one's length field at an offset
unfoldable pub codes_at : (locks variables : ℕ) → List ℕ → ℕ → ℕ → List CodeSection
codes_at locks variables s zero at = []
codes_at locks variables s (suc n) at =
    let count = pair_at s at / instruction_size in
    record { start = at + 2; code = instructions_at locks variables s count (at + 2) }
    ∷ codes_at locks variables s n (at + 2 + instruction_size * count)

-- a station program: its number of threads, and its codes, which a number names; thread t's is code t
pub record Program : Type 0 where
  pub locks : ℕ
  pub variables : List Variable
  pub threads : ℕ
  pub codes : List CodeSection

-- the instructions of code c
unfoldable pub code_of : Program → (c : ℕ) → List Instruction
code_of p c = (get_or p.codes c (record { start = 0; code = [] })).code

-- the program of a sound file: three bytes, the variable section, the code sections
unfoldable pub program_of : List ℕ → Layout → Program
program_of s l = record {
  locks = l.locks;
  variables = variables_at l.locks l.threads s l.variables records_start;
  threads = l.threads;
  codes = codes_at l.locks l.variables s l.threads (record_offset l.variables);
}

-- Reading

-- the variable section: length (1, 4, 1), then the records in order (6)
unfoldable pub variable_section : (locks threads : ℕ) → List ℕ → Cursor → Answer (ℕ × Cursor)
variable_section locks threads s c = do
  (n, first) ← section variable_size variable_section_limit s c
  require_none (first_bad (λ at. Variable.is_valid (record_at locks threads s at)) variable_size n first.at) Record
  Ok (n, cursor (first.at + variable_size * n))

-- where nesting is first broken, as an offset: an entry open at the code's end has the section's end
abbrev pub offset_from : ℕ → Option ℕ → Option ℕ
offset_from start None = None
offset_from start (Some p) = Some (start + instruction_size * p)

-- a code section: length (1, 4, 1), then the instructions in order (7), then "nesting, after all 7s of that thread" (8)
unfoldable pub code_section : (locks variables : ℕ) → List ℕ → Cursor → Answer (ℕ × Cursor)
code_section locks variables s c = do
  (n, first) ← section instruction_size code_section_limit s c
  require_none (first_bad (λ at. Instruction.is_valid (decode_at locks variables s at)) instruction_size n first.at) refusal.Instruction
  require_none (offset_from first.at (first_broken 0 (instructions_at locks variables s n first.at) [])) Nesting
  Ok (n, cursor (first.at + instruction_size * n))

-- the code sections of n threads: how many instructions they have together
unfoldable pub code_sections : (locks variables : ℕ) → List ℕ → ℕ → Cursor → Answer (ℕ × Cursor)
code_sections locks variables s zero c = Ok (0, c)
code_sections locks variables s (suc n) c = do
  (count, d) ← code_section locks variables s c
  (rest, e) ← code_sections locks variables s n d
  Ok (count + rest, e)

-- "read front to back, first offence deciding"
unfoldable pub fields : List ℕ → Answer (ℕ × Cursor)
fields s = do
  (version, c₁) ← byte_field s (cursor 0)
  require (eqb version 1) (Version 0)
  (locks, c₂) ← byte_field s c₁
  require (leb locks lock_limit) (Count 1)
  (threads, c₃) ← byte_field s c₂
  require (leb 1 threads && leb threads thread_limit) (Count 2)
  (variables, c₄) ← variable_section locks threads s c₃
  (instructions, c₅) ← code_sections locks variables s threads c₄
  require (eqb c₅.at (length s)) (LeftOver c₅.at)
  Ok (instructions, c₅)

-- "A file with none of these offences is sound"
unfoldable pub reading : List ℕ → Answer Layout
reading s = do
  (instructions, end) ← fields s
  Ok (record { locks = byte_at s 1; threads = byte_at s 2; variables = pair_at s 3 / variable_size; instructions = instructions })
