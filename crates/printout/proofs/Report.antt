-- The lines see of the report's buffer the report alone. For callers that keep the report in a longer array. Assumes nothing.
--     code_report_lem, sections_report, wholes_report
--                    what stands after the report changes no line of code, of the codes, of the wholes
--     lines_report   it changes no line
use Rattle.std.proofs.Common.{◌≡◌, refl, List, [], ◌∷◌, ◌++◌, ℕ, suc, ◌+◌, ◌≤◌, arith, length, drop, length-drop}
use lib.ListN.{get_or-append}
use lib.Seq.{drop-append-le}
use Rattle.program.specs.Layout.{CodeSection, program_of}
use Rattle.program.specs.Internal.Sound.{SoundFile, report_size}
use Rattle.program.specs.declared.instruction.Instruction.{Instruction}
use Rattle.program.specs.declared.layout.Layout.{Layout}
use Rattle.program.proofs.Sound.{report_size_lem}
use Rattle.printout.specs.Line.{code_lines, section_lines, whole_lines, lines}

-- the lines of code
code_report_lem : (s : List ℕ) (at place : ℕ) (is : List Instruction) (report rest : List ℕ) → length is ≤ length report
    → code_lines s at place is (report ++ rest) ≡ code_lines s at place is report
unfolding code_lines
code_report_lem s at place [] report rest h = refl
code_report_lem s at place (i ∷ is) [] rest h = absurd (let z : ⊥ = omega arith in z)
code_report_lem s at place (i ∷ is) (b ∷ report) rest h = rw (code_report_lem s (at + 4) (suc place) is report rest (omega arith))

module _ (s : List ℕ) (rest : List ℕ) where
  -- the codes' lines
  sections_report : (c : ℕ) (codes : List CodeSection) (report : List ℕ) → report_size codes ≤ length report
      → section_lines s c codes (report ++ rest) ≡ section_lines s c codes report
  unfolding section_lines report_size
  sections_report c [] report h = refl
  sections_report c (x ∷ xs) report h =
      let n : ℕ = length x.code in
      rw (
        code_report_lem s x.start 0 x.code report rest (omega arith),
        drop-append-le (n + 1) report rest (omega arith),
        sections_report (suc c) xs (drop (n + 1) report) (omega (arith, length-drop (n + 1) report)),
      )

  -- the wholes'
  wholes_report : (c : ℕ) (codes : List CodeSection) (report : List ℕ) → report_size codes ≤ length report
      → whole_lines c codes (report ++ rest) ≡ whole_lines c codes report
  unfolding whole_lines report_size
  wholes_report c [] report h = refl
  wholes_report c (x ∷ xs) report h =
      let n : ℕ = length x.code in
      rw (
        get_or-append report rest 0 n (omega arith),
        drop-append-le (n + 1) report rest (omega arith),
        wholes_report (suc c) xs (drop (n + 1) report) (omega (arith, length-drop (n + 1) report)),
      )

-- all lines
pub lines_report : (s : List ℕ) (l : Layout) (report rest : List ℕ) → SoundFile s l → l.instructions + l.threads ≤ length report
    → lines s (program_of s l) (report ++ rest) ≡ lines s (program_of s l) report
unfolding lines
lines_report s l report rest f h =
    let codes : List CodeSection = (program_of s l).codes in
    rw (sections_report s rest 0 codes report (omega (arith, report_size_lem s l f)), wholes_report s rest 0 codes report (omega (arith, report_size_lem s l f)))
