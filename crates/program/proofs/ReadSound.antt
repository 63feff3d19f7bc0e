-- A file that holds what a sound file holds is read as sound: the converse of `Sound`. Assumes nothing.
--     byte_there       a byte that is there
--     section_there    a section's head
--     code_sound, sections_read
--                      a code section, and all of them
--     file_sound       the whole file
use Prim.Native.Nat.{ℕ, zero, suc, ◌+◌, ◌*◌, ◌/◌, ◌%◌, ◌≤◌}
use mathlib.Core.Path.{◌≡◌, refl}
use mathlib.Core.List.{List}
use lib.ListN.{length}
use native.Mathlib.Omega.{arith}
use borrow.Author.Tests.{le-leb, eq-eqb}
use Rattle.std.specs.Prelude.{Ok}
use Rattle.program.specs.Field.{byte_at, pair_at, cursor, present, byte_field, pair_field, section}
use Rattle.program.specs.Instruction.{decode_at}
use Rattle.program.specs.Instruction
use Rattle.program.specs.Layout.{variable_section, code_section, code_sections, fields, reading}
use Rattle.program.specs.Limits.{variable_size, instruction_size, variable_section_limit, code_section_limit, records_start, record_offset}
use Rattle.program.specs.Variable.{record_at}
use Rattle.program.specs.Variable
use Rattle.program.specs.Internal.Sound.{count_at, SoundSection, SoundSections, SoundFile}
use Rattle.program.specs.declared.layout.Layout.{Layout}
use Rattle.program.proofs.Answer.{bind_on}
use Rattle.program.proofs.Search.{first_bad_all}

-- a byte that is there
pub byte_there : (s : List ℕ) (at : ℕ) → at + 1 ≤ length s → byte_field s (cursor at) ≡ Ok (byte_at s at, cursor (at + 1))
unfolding byte_field present
byte_there s at h = rw (le-leb (at + 1) (length s) h)

-- a section's head, whose length field says size times n
section_there : (size limit : ℕ) (s : List ℕ) (at n : ℕ) → pair_at s at % size ≡ 0 → pair_at s at / size ≡ n → at + 2 ≤ length s → pair_at s at ≤ limit
    → at + 2 + pair_at s at ≤ length s → section size limit s (cursor at) ≡ Ok (n, cursor (at + 2))
unfolding section pair_field present
section_there size limit s at n exact count head few whole =
    rw (le-leb (at + 2) (length s) head, exact, le-leb (pair_at s at) limit few, le-leb (at + 2 + pair_at s at) (length s) whole, count)

module _ (s : List ℕ) (locks variables : ℕ) where
  code_sound : (at : ℕ) → SoundSection s locks variables at
      → code_section locks variables s (cursor at) ≡ Ok (count_at s at, cursor (at + 2 + 4 * count_at s at))
  unfolding code_section
  code_sound at h =
      let head = section_there instruction_size code_section_limit s at (count_at s at) (omega (arith, h.exact)) refl h.head (omega (arith, h.exact, h.few)) (omega (arith, h.exact, h.whole)) in
      bind_on (section instruction_size code_section_limit s (cursor at)) _ head
      (rw (
        first_bad_all (λ p. Instruction.is_valid (decode_at locks variables s p)) 4 (count_at s at) (at + 2) h.valid,
        h.nested,
      ))

  sections_read : (n at m : ℕ) → SoundSections s locks variables n at m → code_sections locks variables s n (cursor at) ≡ Ok (m, cursor (length s))
  unfolding code_sections
  sections_read zero at m h = rw (h.0, h.1)
  sections_read (suc n) at m h =
      bind_on (code_section locks variables s (cursor at)) _ (code_sound at h.1)
      (bind_on (code_sections locks variables s n (cursor (at + 2 + 4 * count_at s at))) _ (sections_read n (at + 2 + 4 * count_at s at) h.0 h.3)
      (rw h.2))

module _ (s : List ℕ) (l : Layout) (h : SoundFile s l) where
  variables_read : variable_section (byte_at s 1) (byte_at s 2) s (cursor 3) ≡ Ok (l.variables, cursor (record_offset l.variables))
  unfolding variable_section
  variables_read =
      let head = section_there variable_size variable_section_limit s 3 l.variables (omega (arith, h.variable_count)) (omega (arith, h.variable_count))
      (omega (arith, h.section)) (omega (arith, h.variable_count, h.variables)) (omega (arith, h.variable_count, h.section)) in
      bind_on (section variable_size variable_section_limit s (cursor 3)) _ head
      (rw (← h.lock_count, ← h.thread_count, first_bad_all (λ p. Variable.is_valid (record_at l.locks l.threads s p)) 6 l.variables records_start h.records))

  fields_read : fields s ≡ Ok (l.instructions, cursor (length s))
  unfolding fields
  fields_read =
      rw (
        byte_there s 0 (omega (arith, h.section)),
        byte_there s 1 (omega (arith, h.section)),
        byte_there s 2 (omega (arith, h.section)),
        eq-eqb (byte_at s 0) 1 h.version,
        le-leb (byte_at s 1) 16 (omega (arith, h.lock_count, h.locks)),
        le-leb 1 (byte_at s 2) (omega (arith, h.thread_count, h.some_thread)),
        le-leb (byte_at s 2) 8 (omega (arith, h.thread_count, h.threads)),
        variables_read,
        ← h.lock_count,
        ← h.thread_count,
        sections_read s l.locks l.variables l.threads (record_offset l.variables) l.instructions h.sections,
        eq-eqb (length s) (length s) refl,
      )

  pub file_sound : reading s ≡ Ok l
  unfolding reading
  file_sound =
      let count : pair_at s 3 / 6 ≡ l.variables = omega (arith, h.variable_count) in
      rw (fields_read, ← h.lock_count, ← h.thread_count, count)
