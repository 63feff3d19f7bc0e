-- From the scan of a file's codes to what judging the file answers. Assumes nothing.
--     read_refused          a file that is not sound is refused with the reader's refusal
--     accepts_by            a sound file is accepted as its codes are judged
--     report_length_small   its report fits the buffer that every report fits
--     file_refused          a refusal of the scan is the file's
--     file_accepted         where the scan passes, the file is accepted, and its report laid over the buffer
use Rattle.std.proofs.Common.{ℕ, ◌+◌, ◌≤◌, ◌≡◌, sym, ◌∙◌, ap, List, ◌++◌, arith, length, drop, Ok, Err}
use lib.Seq.{sets}
use Rattle.program.specs.Answer.{Answer, ◌>>=◌}
use Rattle.program.specs.Layout.{program_of, reading}
use Rattle.program.specs.Limits.{record_offset, report_limit}
use Rattle.program.specs.declared.layout.Layout.{Layout}
use Rattle.program.specs.declared.refusal.Refusal.{Refusal}
use Rattle.program.specs.declared.sections.ProgramFile.{ProgramFile}
use Rattle.program.proofs.Answer.{Holds, fine_inj, refused_inj, holds_map}
use Rattle.program.proofs.Differ.{differ}
use Rattle.program.proofs.Lists.{sets-front}
use Rattle.program.proofs.Sound.{sound_file, report_size_lem, report_few}
use Rattle.judge.specs.Acceptance.{Accepted, accept, sound}
use Rattle.judge.specs.Internal.Judgement.{AcceptedAs}
use Rattle.judge.specs.Judging.{judge_codes, judge_program}
use Rattle.judge.specs.Internal.Nested.{Nested}
use Rattle.judge.specs.Internal.Scan.{scan_codes}
use Rattle.judge.proofs.NestedSections.{sections_nested}
use Rattle.judge.proofs.ScanCodes.{codes_agree, codes_size}

-- a file that is not sound is refused with the reader's refusal
pub read_refused : (s : List ℕ) (r : Refusal) → reading s ≡ Err r → accept s ≡ Err r
unfolding accept sound
read_refused s r e = rw e

-- what is accepted of a sound file whose report has these bytes
abbrev accepted_of : List ℕ → Layout → List ℕ → Accepted
accepted_of s l bytes = record { program = program_of s l; report = bytes }

module _ (s : List ℕ) (l : Layout) (e : reading s ≡ Ok l) where
  -- its codes judged
  abbrev judged_codes : Answer (List ℕ)
  judged_codes = judge_codes (program_of s l) 0 (program_of s l).codes

  accepts_by : accept s ≡ (judged_codes >>= λ bytes. Ok (accepted_of s l bytes))
  unfolding accept sound judge_program
  accepts_by = rw e

  nested : Nested (program_of s l).codes
  unfolding program_of
  nested = sections_nested s l.locks l.variables l.threads (record_offset l.variables) l.instructions (sound_file s l e).sections

  -- it fits the buffer that every report fits
  pub report_length_small : l.instructions + l.threads ≤ report_limit
  report_length_small = report_few s l (sound_file s l e)

  -- the report's length
  abbrev Sized : List ℕ → Type 0
  Sized bytes = (length bytes ≡ l.instructions + l.threads) × (length bytes ≤ report_limit)

  report_length : Holds Sized judged_codes
  unfolding program_of
  report_length =
      holds_map _ Sized judged_codes (codes_size (program_of s l) 0 (program_of s l).codes nested)
      (λ bytes m. omega (arith, report_size_lem s l (sound_file s l e), report_length_small))

  module _ (report : List ℕ) where
    pub file_refused : (r : Refusal) → Err r ≡ scan_codes (program_of s l) 0 0 report (program_of s l).codes → accept s ≡ Err r
    file_refused r h = accepts_by ∙ refused_by judged_codes (h ∙ codes_agree (program_of s l) 0 0 report (program_of s l).codes nested)
      where
        refused_by : (m : Answer (List ℕ)) → Err r ≡ (m >>= λ bytes. Ok (sets report 0 bytes))
            → (m >>= λ bytes. Ok (accepted_of s l bytes)) ≡ Err r
        refused_by (Ok bytes) k = differ cc
        refused_by (Err q) k = ap Err (sym (refused_inj r q k))

    pub file_accepted : (after : List ℕ) (file : ProgramFile) → file.bytes.now ≡ s → file.layout ≡ l → report_limit ≤ length report
        → Ok after ≡ scan_codes (program_of s l) 0 0 report (program_of s l).codes
        → AcceptedAs s report after file (l.instructions + l.threads)
    file_accepted after file is_s is_l h k =
        accepted_by judged_codes report_length accepts_by (k ∙ codes_agree (program_of s l) 0 0 report (program_of s l).codes nested)
      where
        accepted_by : (m : Answer (List ℕ)) → Holds Sized m → accept s ≡ (m >>= λ bytes. Ok (accepted_of s l bytes))
            → Ok after ≡ (m >>= λ bytes. Ok (sets report 0 bytes)) → AcceptedAs s report after file (l.instructions + l.threads)
        accepted_by (Ok bytes) n a q = record {
          accepted = accepted_of s l bytes;
          accepts = a;
          reads = e ∙ ap Ok (sym is_l);
          of_file = is_s;
          size = sym n.0;
          counted = ap (λ (l : Layout). l.instructions + l.threads) (sym is_l);
          bytes = fine_inj after (sets report 0 bytes) q ∙ sets-front report bytes (omega (arith, n.1)) ∙ ap (λ (i : ℕ). bytes ++ drop i report) n.0;
        }
        accepted_by (Err r) n a q = differ cc
