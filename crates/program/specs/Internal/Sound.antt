-- What a sound file is known to hold, for the laws of proofs/ and for what inner functions of the crates above require; no public
-- call's contract cites it. `proofs/Sound.antt` shows it of every file that is read as sound.
--     AccessBelow, FieldsGood                 an instruction names registers, locks and variables that there are
--     AllValid                                the instructions of a section are valid
--     count_at, SoundSection, SoundSections   a code section, and all of them
--     SoundFile                               the whole file
--     SoundSections-prop                      the sections are sound in one way only: src/sections.rt keeps it as a ghost field
--     report_size                             how many report bytes its codes have
use Rattle.std.specs.Prelude.{ℕ, zero, suc, ◌+◌, ◌*◌, ◌/◌, ◌<◌, ◌≤◌, ◌≡◌, true, List, [], ◌∷◌, length, None}
use mathlib.Core.HLevel.{×_prop, is_prop→PathP}
use native.Mathlib.Nat.{ℕ_set}
use native.Mathlib.Omega.{arith}
use Rattle.std.proofs.Props.{props}
use Rattle.program.specs.View.{Access, none, reads, writes, takes, gives, access_of}
use Rattle.program.specs.Field.{byte_at, pair_at}
use Rattle.program.specs.Instruction.{decode_at}
use Rattle.program.specs.Instruction
use Rattle.program.specs.Variable.{record_at}
use Rattle.program.specs.Variable
use Rattle.program.specs.Nesting.{first_broken}
use Rattle.program.specs.Layout.{CodeSection, instructions_at}
use Rattle.program.specs.Internal.Seen.{RegistersGood}
use Rattle.program.specs.Limits.{lock_limit, thread_limit, variable_size, variable_limit, instruction_size, instruction_limit, record_offset}
use Rattle.program.specs.declared.instruction.Instruction.{Instruction}
use Rattle.program.specs.declared.layout.Layout.{Layout}

-- "Every lock, variable .. named must lie below its count": those of an access do
abbrev pub AccessBelow : (locks variables : ℕ) → Access → Type 0
AccessBelow locks variables none = Unit
AccessBelow locks variables (reads v) = v < variables
AccessBelow locks variables (writes v a) = v < variables
AccessBelow locks variables (takes k) = k < locks
AccessBelow locks variables (gives k) = k < locks

-- the fields of an instruction are right
abbrev pub FieldsGood : (locks variables : ℕ) → Instruction → Type 0
FieldsGood locks variables i = RegistersGood i × AccessBelow locks variables (access_of i)

-- the n instructions from an offset on are valid
abbrev pub AllValid : (locks variables : ℕ) → List ℕ → (n at : ℕ) → Type 0
AllValid locks variables s n at = (i : ℕ) → i < n → Instruction.is_valid (decode_at locks variables s (at + instruction_size * i)) ≡ true

-- a code section with its length field at an offset: how many instructions it has, and what they are
abbrev pub count_at : List ℕ → ℕ → ℕ
count_at s at = pair_at s at / instruction_size

pub record SoundSection (s : List ℕ) (locks variables at : ℕ) : Type 0 where
  pub head : at + 2 ≤ length s
  pub exact : pair_at s at ≡ instruction_size * count_at s at
  pub few : count_at s at ≤ instruction_limit
  pub whole : at + 2 + instruction_size * count_at s at ≤ length s
  pub valid : AllValid locks variables s (count_at s at) (at + 2)
  pub nested : first_broken 0 (instructions_at locks variables s (count_at s at) (at + 2)) [] ≡ None

-- n code sections from an offset to the file's end, with m instructions together
abbrev pub SoundSections : List ℕ → (locks variables n at m : ℕ) → Type 0
SoundSections s locks variables zero at m = (at ≡ length s) × (m ≡ 0)
SoundSections s locks variables (suc n) at m =
    (rest : ℕ) × SoundSection s locks variables at × (m ≡ count_at s at + rest) × SoundSections s locks variables n (at + 2 + instruction_size * count_at s at) rest

pub SoundSections-prop : (s : List ℕ) (locks variables n at m : ℕ) → IsProp (SoundSections s locks variables n at m)
SoundSections-prop s locks variables zero at m = ×_prop (ℕ_set at (length s)) (ℕ_set m 0)
SoundSections-prop s locks variables (suc n) at m = λ x y.
    let here : IsProp (SoundSection s locks variables at) = hlevel props in
    let rest : x.0 ≡ y.0 = omega (arith, x.2, y.2) in
    let next = at + 2 + instruction_size * count_at s at in
    λ i. (
      rest i,
      here x.1 y.1 i,
      is_prop→PathP (λ j. m ≡ count_at s at + rest j) (λ j. ℕ_set m (count_at s at + rest j)) x.2 y.2 i,
      is_prop→PathP (λ j. SoundSections s locks variables n next (rest j)) (λ j. SoundSections-prop s locks variables n next (rest j)) x.3 y.3 i,
    )

pub record SoundFile (s : List ℕ) (l : Layout) : Type 0 where
  pub version : byte_at s 0 ≡ 1
  pub lock_count : l.locks ≡ byte_at s 1
  pub thread_count : l.threads ≡ byte_at s 2
  pub variable_count : pair_at s 3 ≡ variable_size * l.variables
  pub locks : l.locks ≤ lock_limit
  pub some_thread : 1 ≤ l.threads
  pub threads : l.threads ≤ thread_limit
  pub variables : l.variables ≤ variable_limit
  pub section : record_offset l.variables ≤ length s
  pub records : (i : ℕ) → i < l.variables → Variable.is_valid (record_at l.locks l.threads s (record_offset i)) ≡ true
  pub sections : SoundSections s l.locks l.variables l.threads (record_offset l.variables) l.instructions

-- how many report bytes some codes have: one for each instruction, and one for the whole
unfoldable pub report_size : List CodeSection → ℕ
report_size [] = 0
report_size (x ∷ xs) = length x.code + 1 + report_size xs
