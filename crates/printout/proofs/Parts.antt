-- Laws of the lines by index. Assumes nothing. One kind's lines:
--     length-code_lines, get_or-code_lines, length-variable_lines, get_or-variable_lines, length-whole_lines
--                            how many there are, and each of them
-- The codes' lines, by how many instructions each code has:
--     Counts                 the table has how many that is
--     sections_from, wholes_from
--                            the lines from one code's on are those of the codes from it on
--     section_thread, section_code, whole_thread
--                            a thread's line, an instruction's, a whole's
--     length-section_lines   how many lines, and report bytes, the codes have
-- The lines after the variables', by the table of sections:
--     item_thread, item_code, item_whole
--                            a thread's, an instruction's, a whole's
-- All lines by their parts:
--     line_head, line_variable, line_item
--                            a line of the head, of a variable, and one behind those
--     length-lines           how many lines there are
use Rattle.std.proofs.Common.{◌≡◌, refl, sym, ap, ◌∙◌, List, [], ◌∷◌, ◌++◌, append_assoc, ℕ, zero, suc, ◌+◌, ◌-◌, ◌*◌, ◌≤◌, ◌<◌, add-zero, zero-add, add-one, one-add, arith, length, get_or, drop, length-append, get_or-append-add, get_or-drop, drop-drop, drop-cons, drop_at}
use lib.ListN.{get_or-append}
use Rattle.program.specs.Instruction.{decode_at, decoded_instruction}
use Rattle.program.specs.Layout.{CodeSection, variables_at, program_of}
use Rattle.program.specs.Limits.{records_start, record_offset}
use Rattle.program.specs.Internal.Bounds.{line_count}
use Rattle.program.specs.Internal.Sections.{SectionTable, no_section, bytes_before}
use Rattle.program.specs.Internal.Sound.{SoundFile, report_size}
use Rattle.program.specs.Variable.{Variable, variable_at}
use Rattle.program.specs.declared.instruction.Instruction.{Instruction}
use Rattle.program.specs.declared.instruction.Instruction.TheVariants.{End}
use Rattle.program.specs.declared.layout.Layout.{Layout}
use Rattle.program.proofs.SectionTable.{report_inside}
use Rattle.program.proofs.Sound.{report_size_lem}
use Rattle.program.proofs.Contents.{length-instructions, get_or-instructions, length-variables, get_or-variables, length-codes}
use Rattle.printout.specs.Line.{instruction_line, code_lines, section_lines, whole_lines, variable_line, variable_lines, lines}
use Rattle.printout.specs.Internal.Item.{variables_line, thread_line, head_lines, item_lines, whole_line, ItemAt}
use Rattle.printout.specs.declared.print.Item.TheVariants.{Thread, Code, Whole}

-- One kind's lines

pub length-code_lines : (s : List ℕ) (at place : ℕ) (is : List Instruction) (report : List ℕ) → length (code_lines s at place is report) ≡ length is
unfolding code_lines
length-code_lines s at place [] report = refl
length-code_lines s at place (i ∷ is) report = ap suc (length-code_lines s (at + 4) (suc place) is (drop 1 report))

pub get_or-code_lines : (s : List ℕ) (at place : ℕ) (is : List Instruction) (report : List ℕ) (j : ℕ) → j < length is
    → get_or (code_lines s at place is report) j [] ≡ instruction_line s (at + 4 * j) (place + j) (get_or is j End) (get_or report j 0)
unfolding code_lines
get_or-code_lines s at place [] report j h = absurd (let z : ⊥ = omega arith in z)
get_or-code_lines s at place (i ∷ is) report zero h = rw (add-zero at, add-zero place)
get_or-code_lines s at place (i ∷ is) report (suc j) h =
    let a : at + 4 * suc j ≡ at + 4 + 4 * j = omega arith in
    let p : place + suc j ≡ suc place + j = omega arith in
    let b : get_or report (suc j) 0 ≡ get_or (drop 1 report) j 0 = sym (get_or-drop 1 report j 0 ∙ ap (λ (n : ℕ). get_or report n 0) (one-add j)) in
    rw (a, p, b) (get_or-code_lines s (at + 4) (suc place) is (drop 1 report) j (omega arith))

pub length-variable_lines : (s : List ℕ) (v : ℕ) (xs : List Variable) → length (variable_lines s v xs) ≡ length xs
unfolding variable_lines
length-variable_lines s v [] = refl
length-variable_lines s v (x ∷ xs) = ap suc (length-variable_lines s (suc v) xs)

pub get_or-variable_lines : (s : List ℕ) (v : ℕ) (xs : List Variable) (d : Variable) (j : ℕ) → j < length xs
    → get_or (variable_lines s v xs) j [] ≡ variable_line s (v + j) (get_or xs j d)
unfolding variable_lines
get_or-variable_lines s v [] d j h = absurd (let z : ⊥ = omega arith in z)
get_or-variable_lines s v (x ∷ xs) d zero h = ap (λ (n : ℕ). variable_line s n x) (sym (add-zero v))
get_or-variable_lines s v (x ∷ xs) d (suc j) h =
    get_or-variable_lines s (suc v) xs d j (omega arith) ∙ ap (λ (n : ℕ). variable_line s n (get_or xs j d)) (omega arith)

pub length-whole_lines : (t : ℕ) (cs : List CodeSection) (report : List ℕ) → length (whole_lines t cs report) ≡ length cs
unfolding whole_lines
length-whole_lines t [] report = refl
length-whole_lines t (c ∷ cs) report = ap suc (length-whole_lines (suc t) cs (drop (length c.code + 1) report))

-- The codes' lines: a code has as many as report bytes

abbrev code_at : List CodeSection → ℕ → CodeSection
code_at codes c = get_or codes c no_section

-- the table has how many instructions each code has
abbrev Counts : List CodeSection → List ℕ → Type 0
Counts codes counts = (c : ℕ) → c < length codes → length (code_at codes c).code ≡ get_or counts c 0

module _ (s : List ℕ) (codes : List CodeSection) (counts report : List ℕ) (counted : Counts codes counts) where
  -- past code c's report
  report_past : (c : ℕ) → c < length codes
      → drop (length (code_at codes c).code + 1) (drop (bytes_before counts c) report) ≡ drop (bytes_before counts (suc c)) report
  unfolding bytes_before
  report_past c h =
      let e : bytes_before counts c + (length (code_at codes c).code + 1) ≡ bytes_before counts c + get_or counts c 0 + 1 = omega (arith, counted c h) in
      drop-drop _ (bytes_before counts c) report ∙ ap (λ (n : ℕ). drop n report) e

  -- code c's lines, and those of the codes after it
  sections_at : (c : ℕ) → c < length codes
      → section_lines s c (drop c codes) (drop (bytes_before counts c) report)
      ≡ thread_line s ((code_at codes c).start - 2) c (length (code_at codes c).code)
      ∷ code_lines s (code_at codes c).start 0 (code_at codes c).code (drop (bytes_before counts c) report)
      ++ section_lines s (suc c) (drop (suc c) codes) (drop (bytes_before counts (suc c)) report)
  unfolding section_lines thread_line
  sections_at c h = rw (drop-cons codes c no_section h, report_past c h)

  wholes_at : (c : ℕ) → c < length codes
      → whole_lines c (drop c codes) (drop (bytes_before counts c) report)
      ≡ whole_line c (bytes_before counts c + get_or counts c 0) report
      ∷ whole_lines (suc c) (drop (suc c) codes) (drop (bytes_before counts (suc c)) report)
  unfolding whole_lines whole_line
  wholes_at c h = rw (drop-cons codes c no_section h, report_past c h, counted c h, get_or-drop (bytes_before counts c) report (get_or counts c 0) 0)

  -- the lines from code c's on are those of the codes from c on
  sections_from : (c : ℕ) → c ≤ length codes
      → drop (bytes_before counts c) (section_lines s 0 codes report) ≡ section_lines s c (drop c codes) (drop (bytes_before counts c) report)
  unfolding bytes_before
  sections_from zero h = refl
  sections_from (suc c) h =
      let n : ℕ = get_or counts c 0 in
      let x = code_at codes c in
      let own : List (List ℕ) = code_lines s x.start 0 x.code (drop (bytes_before counts c) report) in
      let next : List (List ℕ) = section_lines s (suc c) (drop (suc c) codes) (drop (bytes_before counts (suc c)) report) in
      let e : bytes_before counts c + n + 1 ≡ bytes_before counts c + suc n = omega arith in
      ap (λ (m : ℕ). drop m (section_lines s 0 codes report)) e
      ∙ sym (drop-drop (suc n) (bytes_before counts c) (section_lines s 0 codes report))
      ∙ ap (drop (suc n)) (sections_from c (omega arith) ∙ sections_at c h)
      ∙ drop_at own next n (length-code_lines s x.start 0 x.code (drop (bytes_before counts c) report) ∙ counted c h)

  wholes_from : (c : ℕ) → c ≤ length codes → drop c (whole_lines 0 codes report) ≡ whole_lines c (drop c codes) (drop (bytes_before counts c) report)
  unfolding bytes_before
  wholes_from zero h = refl
  wholes_from (suc c) h =
      ap (λ (m : ℕ). drop m (whole_lines 0 codes report)) (sym (add-one c))
      ∙ sym (drop-drop 1 c (whole_lines 0 codes report))
      ∙ ap (drop 1) (wholes_from c (omega arith) ∙ wholes_at c h)

  -- line j of code c's
  section_line : (c : ℕ) → c < length codes → (j : ℕ)
      → get_or (section_lines s 0 codes report) (bytes_before counts c + j) [] ≡ get_or (section_lines s c (drop c codes) (drop (bytes_before counts c) report)) j []
  section_line c h j =
      sym (get_or-drop (bytes_before counts c) (section_lines s 0 codes report) j [])
      ∙ ap (λ (xs : List (List ℕ)). get_or xs j []) (sections_from c (omega arith))

  -- thread c's, and its instructions'
  section_thread : (c : ℕ) → c < length codes → get_or (section_lines s 0 codes report) (bytes_before counts c) []
      ≡ thread_line s ((code_at codes c).start - 2) c (length (code_at codes c).code)
  section_thread c h =
      ap (λ (n : ℕ). get_or (section_lines s 0 codes report) n []) (sym (add-zero (bytes_before counts c))) ∙ section_line c h 0
      ∙ ap (λ (xs : List (List ℕ)). get_or xs 0 []) (sections_at c h)

  section_code : (c : ℕ) → c < length codes → (place : ℕ) → place < length (code_at codes c).code
      → get_or (section_lines s 0 codes report) (bytes_before counts c + suc place) []
      ≡ instruction_line s ((code_at codes c).start + 4 * place) place (get_or (code_at codes c).code place End) (get_or report (bytes_before counts c + place) 0)
  section_code c h place b =
      let x = code_at codes c in
      let own = drop (bytes_before counts c) report in
      section_line c h (suc place)
      ∙ ap (λ (xs : List (List ℕ)). get_or xs (suc place) []) (sections_at c h)
      ∙ get_or-append (code_lines s x.start 0 x.code own) _ [] place (omega (arith, length-code_lines s x.start 0 x.code own))
      ∙ get_or-code_lines s x.start 0 x.code own place b
      ∙ rw (zero-add place, get_or-drop (bytes_before counts c) report place 0)

  -- thread c's whole
  whole_thread : (c : ℕ) → c < length codes → get_or (whole_lines 0 codes report) c [] ≡ whole_line c (bytes_before counts c + get_or counts c 0) report
  whole_thread c h =
      ap (λ (n : ℕ). get_or (whole_lines 0 codes report) n []) (sym (add-zero c))
      ∙ sym (get_or-drop c (whole_lines 0 codes report) 0 [])
      ∙ ap (λ (xs : List (List ℕ)). get_or xs 0 []) (wholes_from c (omega arith) ∙ wholes_at c h)

-- How many lines the codes have

-- one for each instruction, and one for the thread: as many as report bytes
length-section_lines : (s : List ℕ) (c : ℕ) (codes : List CodeSection) (report : List ℕ) → length (section_lines s c codes report) ≡ report_size codes
unfolding section_lines report_size
length-section_lines s c [] report = refl
length-section_lines s c (x ∷ xs) report =
    let after : List ℕ = drop (length x.code + 1) report in
    let own : List (List ℕ) = code_lines s x.start 0 x.code report in
    omega (arith, length-append own (section_lines s (suc c) xs after), length-code_lines s x.start 0 x.code report, length-section_lines s (suc c) xs after)

codes_length : (s : List ℕ) (l : Layout) → length (program_of s l).codes ≡ l.threads
unfolding program_of
codes_length s l = length-codes l.locks l.variables s l.threads (record_offset l.variables)

-- The lines after the variables', by the table of sections

module _ {s : List ℕ} {l : Layout} {starts counts : List ℕ} (x : SectionTable s l starts counts) (report : List ℕ) where
  codes_counted : Counts (program_of s l).codes counts
  codes_counted c h =
      let at = x.located c (omega (arith, codes_length s l)) in
      ap (λ (y : CodeSection). length y.code) at.section ∙ length-instructions l.locks l.variables s (get_or counts c 0) (get_or starts c 0)

  codes_lines : length (section_lines s 0 (program_of s l).codes report) ≡ bytes_before counts l.threads
  codes_lines = length-section_lines s 0 (program_of s l).codes report ∙ report_size_lem s l x.sound ∙ sym x.total

  -- one of the codes'
  item_of_codes : (i : ℕ) → i < bytes_before counts l.threads → get_or (item_lines s l report) i [] ≡ get_or (section_lines s 0 (program_of s l).codes report) i []
  unfolding item_lines
  item_of_codes i h = get_or-append (section_lines s 0 (program_of s l).codes report) (whole_lines 0 (program_of s l).codes report) [] i (omega (arith, codes_lines))

  module _ (i t : ℕ) where
    -- there is such a code
    in_codes : t < l.threads → t < length (program_of s l).codes
    in_codes h = omega (arith, codes_length s l)

    pub item_thread : (head : ℕ) → head + 2 ≡ get_or starts t 0 → ItemAt counts l.threads i (Thread t)
        → thread_line s head t (get_or counts t 0) ≡ get_or (item_lines s l report) i []
    item_thread head f (h, e) =
        let before : get_or starts t 0 - 2 ≡ head = omega arith in
        sym (
        item_of_codes i (omega (arith, report_inside x t h, x.total))
        ∙ ap (λ (n : ℕ). get_or (section_lines s 0 (program_of s l).codes report) n []) e
        ∙ section_thread s (program_of s l).codes counts report codes_counted t (in_codes h)
        ∙ rw ((x.located t h).section, length-instructions l.locks l.variables s (get_or counts t 0) (get_or starts t 0), before)
        )

    pub item_code : (place : ℕ) → ItemAt counts l.threads i (Code t place)
        → instruction_line s (get_or starts t 0 + 4 * place) place (decoded_instruction (decode_at l.locks l.variables s (get_or starts t 0 + 4 * place))) (get_or report (i - 1) 0)
        ≡ get_or (item_lines s l report) i []
    item_code place (h, b, e) =
        let byte : i - 1 ≡ bytes_before counts t + place = omega arith in
        sym (
        item_of_codes i (omega (arith, report_inside x t h, x.total))
        ∙ ap (λ (n : ℕ). get_or (section_lines s 0 (program_of s l).codes report) n []) e
        ∙ section_code s (program_of s l).codes counts report codes_counted t (in_codes h) place (omega (arith, codes_counted t (in_codes h)))
        ∙ rw ((x.located t h).section, get_or-instructions l.locks l.variables s (get_or counts t 0) (get_or starts t 0) place b, byte)
        )

    pub item_whole : ItemAt counts l.threads i (Whole t) → whole_line t (bytes_before counts t + get_or counts t 0) report ≡ get_or (item_lines s l report) i []
    unfolding item_lines
    item_whole (h, e) =
        let codes = (program_of s l).codes in
        let past : i ≡ length (section_lines s 0 codes report) + t = omega (arith, codes_lines) in
        sym (
        ap (λ (n : ℕ). get_or (section_lines s 0 codes report ++ whole_lines 0 codes report) n []) past
        ∙ get_or-append-add (section_lines s 0 codes report) (whole_lines 0 codes report) t []
        ∙ whole_thread s codes counts report codes_counted t (in_codes h)
        )

module _ (s : List ℕ) (l : Layout) (report : List ℕ) where
  -- All lines by their parts

  lines_parts : lines s (program_of s l) report ≡ head_lines s l.variables ++ (variable_lines s 0 (program_of s l).variables ++ item_lines s l report)
  unfolding lines variables_line head_lines item_lines program_of
  lines_parts =
      rw (length-variables l.locks l.threads s l.variables records_start)
      (ap (λ (xs : List (List ℕ)). head_lines s l.variables ++ xs) (append_assoc (variable_lines s 0 (program_of s l).variables) (section_lines s 0 (program_of s l).codes report) (whole_lines 0 (program_of s l).codes report)))

  length-variable_part : length (variable_lines s 0 (program_of s l).variables) ≡ l.variables
  unfolding program_of
  length-variable_part = length-variable_lines s 0 (program_of s l).variables ∙ length-variables l.locks l.threads s l.variables records_start

  -- a line of the head
  pub line_head : (i : ℕ) → i < 4 → get_or (lines s (program_of s l) report) i [] ≡ get_or (head_lines s l.variables) i []
  unfolding head_lines
  line_head i h =
      ap (λ (xs : List (List ℕ)). get_or xs i []) lines_parts
      ∙ get_or-append (head_lines s l.variables) (variable_lines s 0 (program_of s l).variables ++ item_lines s l report) [] i h

  -- a line past the head's
  past_head : (i j : ℕ) → i ≡ 4 + j → get_or (lines s (program_of s l) report) i [] ≡ get_or (variable_lines s 0 (program_of s l).variables ++ item_lines s l report) j []
  unfolding head_lines
  past_head i j e =
      ap (λ (n : ℕ). get_or (lines s (program_of s l) report) n []) e
      ∙ ap (λ (xs : List (List ℕ)). get_or xs (4 + j) []) lines_parts
      ∙ get_or-append-add (head_lines s l.variables) (variable_lines s 0 (program_of s l).variables ++ item_lines s l report) j []

  -- a variable's
  pub line_variable : (i v : ℕ) → i ≡ 4 + v → v < l.variables
      → get_or (lines s (program_of s l) report) i [] ≡ variable_line s v (variable_at l.locks l.threads s (record_offset v))
  unfolding program_of
  line_variable i v e h =
      let xs : List Variable = variables_at l.locks l.threads s l.variables records_start in
      let d : Variable = variable_at l.locks l.threads s 0 in
      past_head i v e
      ∙ get_or-append (variable_lines s 0 (program_of s l).variables) (item_lines s l report) [] v (omega (arith, length-variable_part))
      ∙ get_or-variable_lines s 0 xs d v (omega (arith, length-variables l.locks l.threads s l.variables records_start))
      ∙ ap (λ (n : ℕ). variable_line s n (get_or xs v d)) (zero-add v)
      ∙ ap (variable_line s v) (get_or-variables l.locks l.threads s l.variables records_start v d h)

  -- one after those
  pub line_item : (i j : ℕ) → i ≡ 4 + (l.variables + j) → get_or (lines s (program_of s l) report) i [] ≡ get_or (item_lines s l report) j []
  line_item i j e =
      past_head i (l.variables + j) e
      ∙ ap (λ (n : ℕ). get_or (variable_lines s 0 (program_of s l).variables ++ item_lines s l report) (n + j) []) (sym length-variable_part)
      ∙ get_or-append-add (variable_lines s 0 (program_of s l).variables) (item_lines s l report) j []

-- "line count"
pub length-lines : (s : List ℕ) (l : Layout) (report : List ℕ) → SoundFile s l
    → length (lines s (program_of s l) report) ≡ line_count l.variables l.threads l.instructions
unfolding head_lines item_lines
length-lines s l report f =
    let vs : List (List ℕ) = variable_lines s 0 (program_of s l).variables in
    let ts : List (List ℕ) = section_lines s 0 (program_of s l).codes report in
    let ws : List (List ℕ) = whole_lines 0 (program_of s l).codes report in
    omega (
      arith,
      ap length (lines_parts s l report),
      length-append vs (ts ++ ws),
      length-append ts ws,
      length-variable_part s l report,
      length-section_lines s 0 (program_of s l).codes report,
      report_size_lem s l f,
      length-whole_lines 0 (program_of s l).codes report,
      codes_length s l,
    )
