-- The table of sections, as src/sections.rt fills it once after reading: where in the file each code lies, and how many instructions it
-- has. Judging, the step machine and the printout find an instruction by it.
--     no_section     what is read where there is no section
--     Located        where a code lies
--     bytes_before   how many report bytes the codes before one have
--     SectionTable   the whole table of a sound file
use Rattle.std.specs.Prelude.{ℕ, zero, suc, ◌+◌, ◌-◌, ◌*◌, ◌≤◌, ◌<◌, ◌≡◌, List, [], length, get_or, None}
use Rattle.program.specs.Layout.{CodeSection, program_of, instructions_at}
use Rattle.program.specs.Limits.{instruction_limit, instruction_size}
use Rattle.program.specs.Nesting.{first_broken}
use Rattle.program.specs.Internal.Bounds.{code_limit}
use Rattle.program.specs.Internal.Sound.{AllValid, SoundFile, count_at}
use Rattle.program.specs.declared.layout.Layout.{Layout}

abbrev pub no_section : CodeSection
no_section = record { start = 0; code = [] }

-- code c: its length field stands before its first instruction; it is short and well nested, and each of its instructions is valid
pub record Located (s : List ℕ) (l : Layout) (start count c : ℕ) : Type 0 where
  pub head : 2 ≤ start
  pub length-field : count_at s (start - 2) ≡ count
  pub section : get_or (program_of s l).codes c no_section ≡ record { start = start; code = instructions_at l.locks l.variables s count start }
  pub inside : start + instruction_size * count ≤ length s
  pub short : count ≤ instruction_limit
  pub valid : AllValid l.locks l.variables s count start
  pub nested : first_broken 0 (instructions_at l.locks l.variables s count start) [] ≡ None

-- how many report bytes the codes before code c have: one for each instruction, and one for the whole
unfoldable pub bytes_before : List ℕ → (c : ℕ) → ℕ
bytes_before counts zero = 0
bytes_before counts (suc c) = bytes_before counts c + get_or counts c 0 + 1

pub record SectionTable (s : List ℕ) (l : Layout) (starts counts : List ℕ) : Type 0 where
  pub sound : SoundFile s l
  pub starts_length : length starts ≡ code_limit
  pub counts_length : length counts ≡ code_limit
  pub located : (c : ℕ) → c < l.threads → Located s l (get_or starts c 0) (get_or counts c 0) c
  pub total : bytes_before counts l.threads ≡ l.instructions + l.threads
