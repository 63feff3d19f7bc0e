-- The loop of `walk_codes`: what holds at its head, and how each code carries that on. Assumes nothing.
--     program_scan          the scan over all codes
--     Walking               what holds at the loop's head
--     walking_start         ... where the loop begins
--     walking_located       where the code that comes next lies
--     report_inside_limit   its report lies within the longest
--     walking_next          ... after a code
--     refused_code          a refusal of a code is one of the program
--     walking_end           after the last code
use Rattle.std.proofs.Common.{ℕ, ◌+◌, ◌≤◌, ◌<◌, ◌≡◌, refl, ◌∙◌, ap, List, [], ◌∷◌, add-one, arith, length, get_or, drop, drop_of_length-le, drop-cons, Ok, Err}
use Rattle.program.specs.Answer.{Answer, ◌>>=◌}
use Rattle.program.specs.Layout.{CodeSection, program_of}
use Rattle.program.specs.Limits.{report_limit, record_offset}
use Rattle.program.specs.Internal.Sections.{Located, SectionTable, no_section, bytes_before}
use Rattle.program.specs.declared.layout.Layout.{Layout}
use Rattle.program.specs.declared.refusal.Refusal.{Refusal}
use Rattle.program.proofs.Contents.{length-codes, length-instructions}
use Rattle.program.proofs.SectionTable.{bytes_one_more, report_inside}
use Rattle.program.proofs.Sound.{report_few}
use Rattle.judge.specs.Internal.Scan.{scan_code, scan_codes}

module _ (s : List ℕ) (l : Layout) (starts counts : List ℕ) (table : SectionTable s l starts counts) (report₀ : List ℕ) where
  -- the code with a number
  abbrev pub section_of : ℕ → CodeSection
  section_of c = get_or (program_of s l).codes c no_section

  -- the scan over all codes
  abbrev pub program_scan : Answer (List ℕ)
  program_scan = scan_codes (program_of s l) 0 0 report₀ (program_of s l).codes

  codes_length : length (program_of s l).codes ≡ l.threads
  unfolding program_of
  codes_length = length-codes l.locks l.variables s l.threads (record_offset l.variables)

  -- before a code: its number and its report's index; scanning those from there on is the whole scan
  pub record Walking (report : List ℕ) (number first : ℕ) : Type 0 where
    pub few : number ≤ l.threads
    pub index : first ≡ bytes_before counts number
    pub report_length : length report ≡ length report₀
    pub rest_is_whole : scan_codes (program_of s l) number first report (drop number (program_of s l).codes) ≡ program_scan

  pub walking_start : Walking report₀ 0 0
  unfolding bytes_before
  walking_start = record { few = omega arith; index = refl; report_length = refl; rest_is_whole = refl }

  module _ (report : List ℕ) (number first : ℕ) (x : Walking report number first) where
    module _ (more : number < l.threads) where
      pub walking_located : Located s l (get_or starts number 0) (get_or counts number 0) number
      walking_located = table.located number more

      pub report_inside_limit : first + get_or counts number 0 < report_limit
      report_inside_limit = omega (arith, x.index, report_inside table number more, report_few _ _ table.sound)

      -- scanning the code and then the rest is the whole scan
      code_then_rest : (scan_code (program_of s l) number first report (section_of number)
          >>= λ left. scan_codes (program_of s l) (number + 1) (first + (get_or counts number 0 + 1)) left (drop (number + 1) (program_of s l).codes))
          ≡ program_scan
      unfolding scan_codes
      code_then_rest =
          let here : drop number (program_of s l).codes ≡ section_of number ∷ drop (number + 1) (program_of s l).codes =
          drop-cons (program_of s l).codes number no_section (omega (arith, codes_length)) ∙ rw (add-one number) in
          let size : length (section_of number).code ≡ get_or counts number 0 =
          ap (λ (x : CodeSection). length x.code) walking_located.section
          ∙ length-instructions l.locks l.variables s (get_or counts number 0) (get_or starts number 0) in
          let place : first + (get_or counts number 0 + 1) ≡ first + length (section_of number).code + 1 = omega (arith, size) in
          rw (place, add-one number) (rw (here, add-one number) at x.rest_is_whole)

      pub walking_next : (report' : List ℕ) → length report' ≡ length report
          → Ok report' ≡ scan_code (program_of s l) number first report (section_of number)
          → Walking report' (number + 1) (first + (get_or counts number 0 + 1))
      walking_next report' k e = record {
        few = omega arith;
        index = omega (arith, x.index, bytes_one_more counts number);
        report_length = k ∙ x.report_length;
        rest_is_whole = rw (← e) at code_then_rest;
      }

      pub refused_code : (r : Refusal) → Err r ≡ scan_code (program_of s l) number first report (section_of number) → Err r ≡ program_scan
      refused_code r e = rw (← e) at code_then_rest

    pub walking_end : l.threads ≤ number → Ok report ≡ program_scan
    unfolding scan_codes
    walking_end none =
        let all : length (program_of s l).codes ≤ number = omega (arith, codes_length) in
        let nothing : drop number (program_of s l).codes ≡ [] = drop_of_length-le (program_of s l).codes all in
        rw nothing at x.rest_is_whole
