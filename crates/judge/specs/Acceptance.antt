-- Sound and accepted files (the standard, "Who can bring a number about").
use Rattle.std.specs.Prelude.{ℕ, List, Ok}
use Rattle.program.specs.Answer.{Answer, ◌>>=◌}
use Rattle.program.specs.Layout.{Program, program_of, reading}
use Rattle.judge.specs.Judging.{judge_program}

-- "A file with none of these offences is sound"
unfoldable pub sound : List ℕ → Answer Program
sound s = do
  l ← reading s
  Ok (program_of s l)

-- an accepted file: its program and its report
pub record Accepted : Type 0 where
  pub program : Program
  pub report : List ℕ

-- "A sound file with none of these is accepted"
unfoldable pub accept : List ℕ → Answer Accepted
accept s = do
  p ← sound s
  report ← judge_program p
  Ok (record { program = p; report = report })
