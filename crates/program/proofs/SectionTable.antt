-- The table of sections, filled code by code. Assumes nothing.
--     Walked                      the sections from an offset on are those of the codes from one on
--     walked_start, walked_next   at the first code, and one code on
--     section_sound               the section there is sound
--     section_located             the code lies there
--     walked_end                  past the last code no instruction is left
--     located_next                one code more is located
--     bytes_set, bytes_next       the report bytes before a code, where a later count is stored
--     bytes_one_more, bytes_grow  ... before the code after it; a later code has at least as many before it
--     bytes_inside                ... with a code's own it has no more than those before a later one
--     Filling                     what holds at the loop's head
--     filling_start, filling_next ... where the loop begins, and after a code
--     filling_section             the section of the code that is filled in is sound
--     filling_end                 ... where the loop ends it is the table of sections
--     report_inside               a code's report lies in the report
use Prim.Native.Nat.{ℕ, zero, suc, ◌+◌, ◌*◌, ◌-◌, ◌≤◌, ◌<◌}
use mathlib.Core.Path.{◌≡◌, refl, sym, ap, ◌∙◌, subst}
use mathlib.Core.Logic.{◌≢◌}
use mathlib.Core.List.{List, ◌∷◌}
use native.Mathlib.Nat.{add-zero, sub-zero}
use native.Mathlib.Numerals.{add-one}
use native.Mathlib.Decide.{ℕ_discrete}
use native.Mathlib.Omega.{arith}
use lib.ListN.{length, get_or, set, drop, length-set}
use lib.Seq.{get_or-drop, drop-drop, get_or-set_same, get_or-set_other}
use Rattle.program.specs.Layout.{CodeSection, program_of, codes_at, instructions_at}
use Rattle.program.specs.Limits.{record_offset}
use Rattle.program.specs.Internal.Bounds.{code_limit}
use Rattle.program.specs.Internal.Sections.{Located, SectionTable, no_section, bytes_before}
use Rattle.program.specs.Internal.Sound.{SoundFile, SoundSection, SoundSections, count_at}
use Rattle.program.specs.declared.layout.Layout.{Layout}

-- the sections whose first length field is at an offset are those of the codes from c on, and have so many instructions
pub record Walked (s : List ℕ) (l : Layout) (c at : ℕ) : Type 0 where
  pub instructions : ℕ
  pub sound : SoundSections s l.locks l.variables (l.threads - c) at instructions
  pub codes_from : drop c (program_of s l).codes ≡ codes_at l.locks l.variables s (l.threads - c) at

pub walked_start : (s : List ℕ) (l : Layout) → SoundFile s l → Walked s l 0 (record_offset l.variables)
unfolding program_of
walked_start s l f = record { instructions = l.instructions; sound = rw sub-zero f.sections; codes_from = rw sub-zero }

module _ (s : List ℕ) (l : Layout) (c at : ℕ) (h : c < l.threads) (x : Walked s l c at) where
  codes_left : l.threads - c ≡ suc (l.threads - (c + 1))
  codes_left = omega arith

  sections_from_here : SoundSections s l.locks l.variables (suc (l.threads - (c + 1))) at x.instructions
  sections_from_here = subst (λ (n : ℕ). SoundSections s l.locks l.variables n at x.instructions) codes_left x.sound

  pub section_sound : SoundSection s l.locks l.variables at
  section_sound = sections_from_here.1

  codes_from_section : drop c (program_of s l).codes
      ≡ record { start = at + 2; code = instructions_at l.locks l.variables s (count_at s at) (at + 2) }
      ∷ codes_at l.locks l.variables s (l.threads - (c + 1)) (at + 2 + 4 * count_at s at)
  unfolding codes_at
  codes_from_section = x.codes_from ∙ ap (λ (n : ℕ). codes_at l.locks l.variables s n at) codes_left

  pub walked_next : Walked s l (c + 1) (at + 2 + 4 * count_at s at)
  walked_next = record {
    instructions = sections_from_here.0;
    sound = sections_from_here.3;
    codes_from = sym (drop-drop 1 c (program_of s l).codes) ∙ ap (drop 1) codes_from_section;
  }

  -- the instructions left are this code's and those of the codes after it
  pub instructions_left : x.instructions ≡ count_at s at + walked_next.instructions
  unfolding walked_next sections_from_here
  instructions_left = sections_from_here.2

  section_is : get_or (program_of s l).codes c no_section
      ≡ record { start = at + 2; code = instructions_at l.locks l.variables s (count_at s at) (at + 2) }
  section_is =
      let codes = (program_of s l).codes in
      ap (λ (n : ℕ). get_or codes n no_section) (sym (add-zero c))
      ∙ sym (get_or-drop c codes 0 no_section)
      ∙ ap (λ (xs : List CodeSection). get_or xs 0 no_section) codes_from_section

  pub section_located : Located s l (at + 2) (count_at s at) c
  section_located =
      let back : at + 2 - 2 ≡ at = omega arith in
      record {
        head = omega arith;
        length-field = ap (count_at s) back;
        section = section_is;
        inside = section_sound.whole;
        short = section_sound.few;
        valid = section_sound.valid;
        nested = section_sound.nested;
      }

-- none is left
pub walked_end : (s : List ℕ) (l : Layout) (c at : ℕ) → l.threads ≤ c → (x : Walked s l c at) → x.instructions ≡ 0
walked_end s l c at h x =
    let none : l.threads - c ≡ 0 = omega arith in
    (subst (λ (n : ℕ). SoundSections s l.locks l.variables n at x.instructions) none x.sound).1

-- one code more is located
pub located_next : (s : List ℕ) (l : Layout) (starts counts : List ℕ) (c a n : ℕ) → c < length starts → c < length counts
    → ((u : ℕ) → u < c → Located s l (get_or starts u 0) (get_or counts u 0) u) → Located s l a n c
    → (u : ℕ) → u < c + 1 → Located s l (get_or (set starts c a) u 0) (get_or (set counts c n) u 0) u
located_next s l starts counts c a n p q before located u h = elim (ℕ_discrete u c) [
  | yes e ↦ rw (e, get_or-set_same starts c a 0 p, get_or-set_same counts c n 0 q) located
  | no e ↦ rw (get_or-set_other starts c u a 0 e, get_or-set_other counts c u n 0 e) (before u (omega arith))
]

-- a count stored at c leaves the bytes before the codes up to c as they were
pub bytes_set : (counts : List ℕ) (c n u : ℕ) → u ≤ c → bytes_before (set counts c n) u ≡ bytes_before counts u
unfolding bytes_before
bytes_set counts c n zero h = refl
bytes_set counts c n (suc u) h =
    let other : u ≢ c = λ e. absurd (omega arith) in
    rw (bytes_set counts c n u (omega arith), get_or-set_other counts c u n 0 other)

pub bytes_next : (counts : List ℕ) (c n : ℕ) → c < length counts → bytes_before (set counts c n) (c + 1) ≡ bytes_before counts c + n + 1
unfolding bytes_before
bytes_next counts c n h = rw (add-one c, bytes_set counts c n c (omega arith), get_or-set_same counts c n 0 h)

-- a code's bytes lie between its own start and the next code's
pub bytes_one_more : (counts : List ℕ) (c : ℕ) → bytes_before counts (c + 1) ≡ bytes_before counts c + get_or counts c 0 + 1
unfolding bytes_before
bytes_one_more counts c = rw (add-one c)

pub bytes_grow : (counts : List ℕ) (c d : ℕ) → c ≤ d → bytes_before counts c ≤ bytes_before counts d
unfolding bytes_before
bytes_grow counts c zero h = let e : c ≡ 0 = omega arith in rw e (omega arith)
bytes_grow counts c (suc d) h = elim (ℕ_discrete c (suc d)) [
  | yes e ↦ rw e (omega arith)
  | no e ↦ omega (arith, bytes_grow counts c d (omega arith))
]

pub bytes_inside : (counts : List ℕ) (u c : ℕ) → u < c → bytes_before counts u + get_or counts u 0 + 1 ≤ bytes_before counts c
bytes_inside counts u c h = omega (arith, bytes_one_more counts u, bytes_grow counts (u + 1) c (omega arith))

-- before code c, whose length field is at an offset
pub record Filling (s : List ℕ) (l : Layout) (starts counts : List ℕ) (at c : ℕ) : Type 0 where
  pub few : c ≤ l.threads
  pub starts_length : length starts ≡ code_limit
  pub counts_length : length counts ≡ code_limit
  pub walked : Walked s l c at
  pub located : (u : ℕ) → u < c → Located s l (get_or starts u 0) (get_or counts u 0) u
  pub counted : bytes_before counts c + walked.instructions + (l.threads - c) ≡ l.instructions + l.threads

pub filling_start : (s : List ℕ) (l : Layout) (starts counts : List ℕ) → SoundFile s l → length starts ≡ code_limit → length counts ≡ code_limit
    → Filling s l starts counts (record_offset l.variables) 0
unfolding bytes_before walked_start
filling_start s l starts counts f p q = record {
  few = omega arith;
  starts_length = p;
  counts_length = q;
  walked = walked_start s l f;
  located = λ u h. absurd (omega arith);
  counted = omega arith;
}

module _ (s : List ℕ) (l : Layout) (starts counts : List ℕ) (at c : ℕ) (f : SoundFile s l) (x : Filling s l starts counts at c) where
  module _ (h : c < l.threads) where
    pub filling_section : SoundSection s l.locks l.variables at
    filling_section = section_sound s l c at h x.walked

    pub filling_next : Filling s l (set starts c (at + 2)) (set counts c (count_at s at)) (at + 2 + 4 * count_at s at) (c + 1)
    filling_next =
        let n = count_at s at in
        let p : c < length starts = omega (arith, x.starts_length, f.threads) in
        let q : c < length counts = omega (arith, x.counts_length, f.threads) in
        record {
          few = omega arith;
          starts_length = length-set starts c (at + 2) ∙ x.starts_length;
          counts_length = length-set counts c n ∙ x.counts_length;
          walked = walked_next s l c at h x.walked;
          located = located_next s l starts counts c (at + 2) n p q x.located (section_located s l c at h x.walked);
          counted = omega (arith, x.counted, bytes_next counts c n q, instructions_left s l c at h x.walked);
        }

  pub filling_end : l.threads ≤ c → SectionTable s l starts counts
  filling_end h =
      let all : c ≡ l.threads = omega (arith, x.few) in
      record {
        sound = f;
        starts_length = x.starts_length;
        counts_length = x.counts_length;
        located = λ u b. x.located u (omega arith);
        total = rw (← all) (omega (arith, x.counted, walked_end s l c at h x.walked));
      }

-- a code's report lies in the report
module _ {s : List ℕ} {l : Layout} {starts counts : List ℕ} (x : SectionTable s l starts counts) where
  pub report_inside : (c : ℕ) → c < l.threads → bytes_before counts c + get_or counts c 0 < l.instructions + l.threads
  report_inside c h = omega (arith, bytes_one_more counts c, bytes_grow counts (c + 1) l.threads (omega arith), x.total)
