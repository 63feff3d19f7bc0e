-- No line is longer than 42 bytes (the standard, "Line and bench": "The longest line has 42 bytes"), so 48 are enough for each. Assumes
-- nothing.
--     width, width_append, line_width  how many bytes some words take, each with a blank or the newline behind it
--     raw_width, letter_width, stated_width, kind_width
--                                      words
--     instruction_width                the words of an instruction of four bytes
--     Short, short_append, short_at    lines that are all short
--     head_short, variable_short, instruction_short, ..
--                                      each kind of line
--     lines_short, no_longer_line      the lines of a sound file
use Rattle.std.proofs.Common.{ℕ, zero, suc, ◌+◌, ◌-◌, ◌*◌, ◌<◌, ◌≤◌, ◌≡◌, refl, ap, ◌∙◌, Bool, true, false, List, [], ◌∷◌, ◌++◌, flat_map, Some, None, ltb, eqb, length, get_or, take, drop, length-append, length-take, arith, ltb-true}
use Prim.Native.String.{String}
use Rattle.program.proofs.Contents.{length-instructions, length-variables}
use Rattle.program.proofs.Decode.{decode_holds}
use Rattle.program.specs.Choice.{choose}
use Rattle.program.specs.Field.{byte_at, word_at}
use Rattle.program.specs.Instruction.{decode, decode_at, decoded_instruction}
use Rattle.program.specs.Layout.{instructions_at, variables_at, codes_at, program_of}
use Rattle.program.specs.Limits.{longest_line, lock_limit, thread_limit, variable_limit, instruction_limit, records_start, record_offset}
use Rattle.program.specs.Variable.{recorded, record_at, variable_at}
use Rattle.program.specs.Variable as recordings
use Rattle.program.specs.Internal.Sound.{SoundSections, SoundFile, count_at}
use Rattle.program.specs.declared.layout.Layout.{Layout}
use Rattle.program.specs.declared.variable.Kind.TheVariants.{Guarded, Own, Fixed, Open}
use Rattle.printout.specs.Line.{raw, numbered, letter, head_line, kind_words, variable_line, variable_lines, stated_words, instruction_words, instruction_line, code_lines, section_lines, whole_lines, lines}
use Rattle.printout.specs.Text.{ascii, hex, decimal, spaced, line_of}
use Rattle.printout.specs.Internal.Writing.{ended}
use Rattle.printout.proofs.Digits.{decimal_length}
use Rattle.printout.proofs.Said.{line_of_more}

-- ---- words

abbrev width : List (List ℕ) → ℕ
width [] = 0
width (w ∷ ws) = length w + 1 + width ws

width_append : (ws vs : List (List ℕ)) → width (ws ++ vs) ≡ width ws + width vs
width_append [] vs = omega arith
width_append (w ∷ ws) vs = omega (arith, width_append ws vs)

line_width : (w : List ℕ) (ws : List (List ℕ)) → length (line_of (w ∷ ws)) ≡ width (w ∷ ws)
unfolding line_of spaced ended
line_width w [] = omega (arith, length-append w (10 ∷ []))
line_width w (v ∷ vs) =
    ap length (line_of_more w v vs)
    ∙ omega (arith, length-append (ended w 32) (line_of (v ∷ vs)), length-append w (32 ∷ []), line_width v vs)

hex_length : (bytes : List ℕ) → length (flat_map hex bytes) ≡ 2 * length bytes
unfolding hex
hex_length [] = refl
hex_length (b ∷ bytes) = omega (arith, hex_length bytes)

raw_width : (s : List ℕ) (at n : ℕ) → length (raw s at n) ≤ 2 * n
unfolding raw hex
raw_width s at n = omega (arith, hex_length (take n (drop at s)), length-take n (drop at s))

letter_width : (b : ℕ) → length (letter b) ≤ 1
unfolding letter
letter_width b = omega (arith, length-take 1 (drop b (ascii "-BLRAT")))

stated_width : (stated : ℕ) → width (stated_words stated) ≤ 2
unfolding stated_words
stated_width stated = cases (eqb stated 0)
  where
    cases : (nothing : Bool) → width (choose nothing [] (letter stated ∷ [])) ≤ 2
    cases true = omega arith
    cases false = omega (arith, letter_width stated)

-- ---- a variable

kind_width : (locks threads kind g : ℕ) → locks ≤ lock_limit → threads ≤ thread_limit → width (kind_words (recordings.kind_of (recorded locks threads kind g))) ≤ 12
unfolding recorded kind_words numbered ascii
kind_width locks threads kind g few_locks few_threads =
    cases (eqb kind 0) (ltb g locks) refl (eqb kind 1) (ltb g threads) refl (eqb kind 2) (eqb g 0) (eqb kind 3)
  where
    cases : (a : Bool) (b : Bool) → ltb g locks ≡ b → (c : Bool) (d : Bool) → ltb g threads ≡ d → (e f h : Bool)
        → width (kind_words (recordings.kind_of
        (choose a (choose b (Some (Guarded g)) None)
        (choose c (choose d (Some (Own g)) None)
        (choose e (choose f (Some Fixed) None)
        (choose h (choose f (Some Open) None) None)))))) ≤ 12
    cases true true l c d m e f h = omega (arith, decimal_length 1 g (omega (arith, ltb-true g locks l)))
    cases true false l c d m e f h = omega arith
    cases false b l true true m e f h = omega (arith, decimal_length 1 g (omega (arith, ltb-true g threads m)))
    cases false b l true false m e f h = omega arith
    cases false b l false d m true true h = omega arith
    cases false b l false d m true false h = omega arith
    cases false b l false d m false true true = omega arith
    cases false b l false d m false false true = omega arith
    cases false b l false d m false f false = omega arith

-- ---- an instruction

instruction_width : (locks variables op a b c : ℕ) → a < 256 → b < 256 → c < 256
    → width (instruction_words (decoded_instruction (decode locks variables op a b c))) ≤ 21
unfolding instruction_words numbered ascii
instruction_width locks variables op a b c small_a small_b small_c =
    let x = decimal_length 2 a (omega arith) in
    let y = decimal_length 2 b (omega arith) in
    let z = decimal_length 2 c (omega arith) in
    let n = decimal_length 4 (b * 256 + c) (omega arith) in
    decode_holds (λ i. width (instruction_words i) ≤ 21) (omega arith) locks variables op a b c
    (omega (arith, x, n), (omega (arith, x, y), (omega (arith, x, y, z), (omega (arith, x, y, z), (omega (arith, x, y, z), (omega (arith, x, y), (omega (arith, x, y), (omega (arith, x), (omega (arith, x), (omega (arith, x, n), (omega (arith, n), (omega (arith, x, n), (omega (arith, n), (omega (arith, n, stated_width a), (omega arith, (omega (arith, x, y, z), (omega (arith, x, y, z), tt)))))))))))))))))

-- ---- lines

abbrev Short : List (List ℕ) → Type 0
Short [] = Unit
Short (x ∷ xs) = (length x ≤ longest_line) × Short xs

short_append : (xs ys : List (List ℕ)) → Short xs → Short ys → Short (xs ++ ys)
short_append [] ys h k = k
short_append (x ∷ xs) ys h k = (h.0, short_append xs ys h.1 k)

short_at : (xs : List (List ℕ)) → Short xs → (i : ℕ) → length (get_or xs i []) ≤ longest_line
short_at [] h i = omega arith
short_at (x ∷ xs) h zero = h.0
short_at (x ∷ xs) h (suc i) = short_at xs h.1 i

module _ (s : List ℕ) (bytes : (i : ℕ) → byte_at s i < 256) where
  head_short : (at : ℕ) (name : String) → length (ascii name) ≤ 9 → length (head_line s at name) ≤ longest_line
  unfolding head_line
  head_short at name h =
      omega (arith, line_width (raw s at 1) (ascii name ∷ decimal (byte_at s at) ∷ []), raw_width s at 1, decimal_length 2 (byte_at s at) (omega (arith, bytes at)))

  variable_short : (locks threads v at : ℕ) → locks ≤ lock_limit → threads ≤ thread_limit → v < variable_limit
      → length (variable_line s v (variable_at locks threads s at)) ≤ longest_line
  unfolding variable_line variable_at record_at numbered ascii
  variable_short locks threads v at few_locks few_threads h =
      let d = record_offset v in
      let kind = kind_words (recordings.kind_of (recorded locks threads (byte_at s at) (byte_at s (at + 1)))) in
      let initial = decimal (word_at s (at + 2)) in
      omega (
        arith,
        line_width (raw s d 1) (raw s (d + 1) 1 ∷ raw s (d + 2) 4 ∷ numbered "v" v ∷ kind ++ initial ∷ []),
        width_append kind (initial ∷ []),
        raw_width s d 1,
        raw_width s (d + 1) 1,
        raw_width s (d + 2) 4,
        decimal_length 1 v (omega arith),
        kind_width locks threads (byte_at s at) (byte_at s (at + 1)) few_locks few_threads,
        decimal_length 9 (word_at s (at + 2)) (omega (arith, bytes (at + 2), bytes (at + 2 + 1), bytes (at + 2 + 2), bytes (at + 2 + 2 + 1))),
      )

  variables_short : (locks threads n v at : ℕ) → locks ≤ lock_limit → threads ≤ thread_limit → v + n ≤ variable_limit
      → Short (variable_lines s v (variables_at locks threads s n at))
  unfolding variable_lines variables_at
  variables_short locks threads zero v at few_locks few_threads h = tt
  variables_short locks threads (suc n) v at few_locks few_threads h =
      (variable_short locks threads v at few_locks few_threads (omega arith), variables_short locks threads n (suc v) (at + 6) few_locks few_threads (omega arith))

  module _ (locks variables : ℕ) where
    instruction_short : (at place byte : ℕ) → place < instruction_limit
        → length (instruction_line s at place (decoded_instruction (decode_at locks variables s at)) byte) ≤ longest_line
    unfolding instruction_line decode_at
    instruction_short at place byte h =
        let words = instruction_words (decoded_instruction (decode_at locks variables s at)) in
        omega (
          arith,
          line_width (raw s at 1) (raw s (at + 1) 1 ∷ raw s (at + 2) 1 ∷ raw s (at + 3) 1 ∷ decimal place ∷ words ++ letter byte ∷ []),
          width_append words (letter byte ∷ []),
          raw_width s at 1,
          raw_width s (at + 1) 1,
          raw_width s (at + 2) 1,
          raw_width s (at + 3) 1,
          decimal_length 3 place (omega arith),
          instruction_width locks variables (byte_at s at) (byte_at s (at + 1)) (byte_at s (at + 2)) (byte_at s (at + 3)) (bytes (at + 1)) (bytes (at + 2)) (bytes (at + 3)),
          letter_width byte,
        )

    code_short : (n at place : ℕ) (report : List ℕ) → place + n ≤ instruction_limit → Short (code_lines s at place (instructions_at locks variables s n at) report)
    unfolding code_lines instructions_at
    code_short zero at place report h = tt
    code_short (suc n) at place report h =
        (instruction_short at place (get_or report 0 0) (omega arith), code_short n (at + 4) (suc place) (drop 1 report) (omega arith))

    sections_short : (n at m c : ℕ) (report : List ℕ) → SoundSections s locks variables n at m → c + n ≤ thread_limit
        → Short (section_lines s c (codes_at locks variables s n at) report)
    unfolding section_lines codes_at ascii
    sections_short zero at m c report h few = tt
    sections_short (suc n) at m c report h few =
        let count = count_at s at in
        let is = instructions_at locks variables s count (at + 2) in
        let size = length-instructions locks variables s count (at + 2) in (
          omega (
            arith,
            line_width (raw s (at + 2 - 2) 2) (ascii "thread" ∷ decimal c ∷ ascii "code" ∷ decimal (length is) ∷ []),
            raw_width s (at + 2 - 2) 2,
            decimal_length 0 c (omega arith),
            decimal_length 3 (length is) (omega (arith, size, h.1.few)),
          ),
          short_append (code_lines s (at + 2) 0 is report) _ (code_short count (at + 2) 0 report (omega (arith, h.1.few)))
              (sections_short n (at + 2 + 4 * count) h.0 (suc c) (drop (length is + 1) report) h.3 (omega arith)),
        )

    wholes_short : (n at c : ℕ) (report : List ℕ) → c + n ≤ thread_limit → Short (whole_lines c (codes_at locks variables s n at) report)
    unfolding whole_lines codes_at ascii
    wholes_short zero at c report few = tt
    wholes_short (suc n) at c report few =
        let is = instructions_at locks variables s (count_at s at) (at + 2) in
        let byte = get_or report (length is) 0 in (
          omega (arith, line_width (ascii "thread") (decimal c ∷ letter byte ∷ []), decimal_length 0 c (omega arith), letter_width byte),
          wholes_short n (at + 2 + 4 * count_at s at) (suc c) (drop (length is + 1) report) (omega arith),
        )

  -- the lines of a sound file, whatever the report
  lines_short : (l : Layout) → SoundFile s l → (report : List ℕ) → Short (lines s (program_of s l) report)
  unfolding lines program_of ascii
  lines_short l h report =
      let vs = variables_at l.locks l.threads s l.variables records_start in
      let codes = codes_at l.locks l.variables s l.threads (record_offset l.variables) in
      let count = length-variables l.locks l.threads s l.variables records_start in
      let of_variables = variables_short l.locks l.threads l.variables 0 records_start h.locks h.threads (omega (arith, h.variables)) in
      let of_codes = sections_short l.locks l.variables l.threads (record_offset l.variables) l.instructions 0 report h.sections (omega (arith, h.threads)) in
      let of_wholes = wholes_short l.locks l.variables l.threads (record_offset l.variables) 0 report (omega (arith, h.threads)) in
      let of_section : length (line_of (raw s 3 2 ∷ ascii "variables" ∷ decimal (length vs) ∷ [])) ≤ longest_line =
      omega (arith, line_width (raw s 3 2) (ascii "variables" ∷ decimal (length vs) ∷ []), raw_width s 3 2, decimal_length 1 (length vs) (omega (arith, count, h.variables))) in
      let of_rest = short_append (variable_lines s 0 vs ++ section_lines s 0 codes report) (whole_lines 0 codes report)
      (short_append (variable_lines s 0 vs) (section_lines s 0 codes report) of_variables of_codes) of_wholes in
      (head_short 0 "version" (omega arith), (head_short 1 "locks" (omega arith), (head_short 2 "threads" (omega arith), (of_section, of_rest))))

-- "The longest line has 42 bytes": no line of a sound file, whatever the report, is longer
pub no_longer_line : (s : List ℕ) (l : Layout) → ((i : ℕ) → byte_at s i < 256) → SoundFile s l → (report : List ℕ) (i : ℕ)
    → length (get_or (lines s (program_of s l) report) i []) ≤ longest_line
no_longer_line s l bytes sound report i = short_at (lines s (program_of s l) report) (lines_short s bytes l sound report) i
