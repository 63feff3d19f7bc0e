-- What judging a file answers, and what it leaves in the report's buffer (the standard, "Who can bring a number about", "The report":
-- "Judge returns its length; later bytes are kept"). The buffer is large enough for every report; on a refusal nothing is said of its bytes, and the
-- public calls hand none of them on.
--     AcceptedAs   the file is accepted: what is known of it, its report's length and the buffer afterwards
--     Judgement    what an answer of judge_file says
use Rattle.std.specs.Prelude.{ℕ, ◌+◌, ◌≡◌, List, ◌++◌, Result, Ok, Err, length, drop}
use Rattle.program.specs.Layout.{reading}
use Rattle.program.specs.declared.refusal.Refusal.{Refusal}
use Rattle.program.specs.declared.sections.ProgramFile.{ProgramFile}
use Rattle.judge.specs.Acceptance.{Accepted, accept}

-- the file s is accepted: its bytes and counts, its report's length, and the buffer before and after
pub record AcceptedAs (s before after : List ℕ) (file : ProgramFile) (n : ℕ) : Type 0 where
  pub accepted : Accepted
  pub accepts : accept s ≡ Ok accepted
  pub reads : reading s ≡ Ok file.layout
  pub of_file : file.bytes.now ≡ s
  pub size : n ≡ length accepted.report
  pub counted : n ≡ file.layout.instructions + file.layout.threads
  pub bytes : after ≡ accepted.report ++ drop n before

abbrev pub Judgement : (s before after : List ℕ) → Result (ProgramFile × ℕ) Refusal → Type 0
Judgement s before after (Ok answer) = AcceptedAs s before after answer.0 answer.1
Judgement s before after (Err r) = accept s ≡ Err r
