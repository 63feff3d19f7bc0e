-- Fields and sections (the standard, "The file": "Big-endian", "A section is a 2-byte length, then that many bytes"; "Who can bring a
-- number about": 1, 4).
use Rattle.std.specs.Prelude.{ℕ, ◌+◌, ◌*◌, ◌/◌, ◌%◌, Bool, ◌&&◌, List, length, get_or, leb, eqb, Ok}
use Rattle.program.specs.Answer.{Answer, ◌>>=◌, ◌>>◌, require}
use Rattle.program.specs.declared.cursor.Cursor.{Cursor}
use Rattle.program.specs.declared.refusal.Refusal.TheVariants.{Missing, Length}

-- the numbers at an offset, of one, two and four bytes
abbrev pub byte_at : List ℕ → ℕ → ℕ
byte_at s at = get_or s at 0

abbrev pub pair_at : List ℕ → ℕ → ℕ
pair_at s at = byte_at s at * 256 + byte_at s (at + 1)

abbrev pub word_at : List ℕ → ℕ → ℕ
word_at s at = pair_at s at * 65536 + pair_at s (at + 2)

abbrev pub cursor : ℕ → Cursor
cursor at = record { at = at }

-- "1: bytes of a field or section missing .. D is the file's length": n bytes from the cursor on are there
unfoldable pub present : List ℕ → Cursor → ℕ → Bool
present s c n = leb (c.at + n) (length s)

-- a field of one byte
unfoldable pub byte_field : List ℕ → Cursor → Answer (ℕ × Cursor)
byte_field s c = do
  require (present s c 1) (Missing (length s))
  Ok (byte_at s c.at, cursor (c.at + 1))

-- a field of two bytes
unfoldable pub pair_field : List ℕ → Cursor → Answer (ℕ × Cursor)
pair_field s c = do
  require (present s c 2) (Missing (length s))
  Ok (pair_at s c.at, cursor (c.at + 2))

-- a section's head: its number of records, and the cursor at the first. "4: a section length that is no multiple of 6 (variables) or
-- 4 (code), or above 384 or 4,096; tested before the section's bytes"; these are "counted before its first record is read"
unfoldable pub section : (size limit : ℕ) → List ℕ → Cursor → Answer (ℕ × Cursor)
section size limit s c = do
  (n, first) ← pair_field s c
  require (eqb (n % size) 0 && leb n limit) (Length c.at)
  require (present s first n) (Missing (length s))
  Ok (n / size, first)
