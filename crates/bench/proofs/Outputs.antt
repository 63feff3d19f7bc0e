-- What bench prints for each answer of judging. Assumes nothing.
--     output_refused    the file is refused: the refusal's line
--     output_accepted   it is accepted: its lines, one after the other
use Rattle.std.proofs.Common.{ℕ, ◌≤◌, ◌≡◌, refl, List, length, take_all, Err}
use mathlib.Core.List.{flatten}
use Rattle.hogunlas.proofs.Opening.{opened_by}
use Rattle.hogunlas.specs.Calls.{bench_output}
use Rattle.judge.specs.Acceptance.{accept}
use Rattle.judge.specs.Internal.Judgement.{AcceptedAs}
use Rattle.printout.specs.Line.{lines, refusal_line}
use Rattle.program.specs.Layout.{program_of}
use Rattle.program.specs.Limits.{bench_limit}
use Rattle.program.specs.declared.refusal.Refusal.{Refusal}
use Rattle.program.specs.declared.sections.ProgramFile.{ProgramFile}

module _ (s : List ℕ) (h : length s ≤ bench_limit) where
  -- the file is refused
  pub output_refused : (r : Refusal) → accept s ≡ Err r → bench_output s ≡ refusal_line r
  unfolding bench_output
  output_refused r e = rw (take_all bench_limit s h, e) refl

  -- it is accepted
  pub output_accepted : {before after : List ℕ} {file : ProgramFile} {n : ℕ} (found : AcceptedAs s before after file n)
      → bench_output s ≡ flatten (lines s (program_of s file.layout) found.accepted.report)
  unfolding bench_output
  output_accepted found = rw (take_all bench_limit s h, (opened_by found).accepts) refl
