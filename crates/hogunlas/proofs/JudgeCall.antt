-- What judge answers at each place where its code returns. Assumes nothing.
--     report_front, report_within, report_front_length
--                                    the report at the front of the buffer that judge_file was lent
--     judge_refused                  the file is refused
--     judge_short                    the buffer is too short for the report
--     judge_done                     the report is answered
use Rattle.std.proofs.Common.{◌≡◌, refl, sym, ap, ◌∙◌, ℕ, ◌<◌, ◌≤◌, List, length, take, drop, take_at, length-append, arith, le-leb, Ok, Err}
use borrow.Author.Tests.{lt-leb}
use Rattle.judge.specs.Acceptance.{accept}
use Rattle.judge.specs.Internal.Judgement.{AcceptedAs}
use Rattle.program.specs.declared.refusal.Refusal.{Refusal}
use Rattle.program.specs.declared.refusal.Refusal.TheVariants.{ShortBuffer}
use Rattle.program.specs.declared.sections.ProgramFile.{ProgramFile}
use Rattle.hogunlas.specs.Calls.{judge_answer}

-- the file is refused
pub judge_refused : (s : List ℕ) (room : ℕ) (r : Refusal) → accept s ≡ Err r → judge_answer s room ≡ Err r
unfolding judge_answer
judge_refused s room r e = rw e refl

module _ {s before after : List ℕ} {file : ProgramFile} {n : ℕ} (found : AcceptedAs s before after file n) where
  -- the report stands at the front of the buffer that judge_file was lent
  pub report_front : take n after ≡ found.accepted.report
  report_front = rw found.bytes (take_at found.accepted.report (drop n before) n (sym found.size))

  pub report_within : n ≤ length after
  report_within = rw found.bytes (omega (arith, length-append found.accepted.report (drop n before), found.size))

  pub report_front_length : n ≡ length (take n after)
  report_front_length = found.size ∙ ap length (sym report_front)

  -- the buffer is too short for the report
  pub judge_short : (room : ℕ) → room < n → judge_answer s room ≡ Err (ShortBuffer n)
  unfolding judge_answer
  judge_short room h = rw (found.size, found.accepts, lt-leb (length found.accepted.report) room (rw found.size at h)) refl

  -- the report is answered
  pub judge_done : (room : ℕ) → n ≤ room → judge_answer s room ≡ Ok found.accepted.report
  unfolding judge_answer
  judge_done room h = rw (found.accepts, le-leb (length found.accepted.report) room (rw found.size at h)) refl
