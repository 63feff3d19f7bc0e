-- A file with its statements taken out (the standard, "What is promised"): "A sound file that is not refused with 18 gets the same answer
-- from judge without its statements, refusals included", and so it does from run. Assumes nothing.
--     answers_alike             what goes on from an accepted file's report alone
--     judged_alike, ran_alike   what judge and run answer, for every list and room
--     unstated_alike            ... and what their buffers then hold
use Rattle.std.proofs.Common.{ℕ, ◌≡◌, refl, ap, ◌≢◌, List, length, Ok, Err}
use Rattle.judge.proofs.Unstated.{sound_unstated, report_unstated}
use Rattle.judge.specs.Acceptance.{Accepted, sound, accept}
use Rattle.judge.specs.Judging.{judge_program}
use Rattle.machine.proofs.Unstated.{run_unstated}
use Rattle.machine.specs.Run.{Run}
use Rattle.machine.specs.State.{state_bytes}
use Rattle.program.specs.Answer.{Answer, ◌>>=◌}
use Rattle.program.specs.Layout.{Program}
use Rattle.program.specs.Unstated.{without_statements}
use Rattle.program.specs.Internal.Unstated.{unstated_program}
use Rattle.program.specs.declared.refusal.Refusal.TheVariants.{FalseStatement}
use Rattle.hogunlas.specs.Calls.{buffer_after, judge_answer, judge_buffer, state_size, run_answer, run_buffer}

module _ (s : List ℕ) (p : Program) (is_sound : sound s ≡ Ok p) (other : (d : ℕ) → accept s ≢ Err (FalseStatement d)) where
  answers_alike : {A : Type 0} (go : Accepted → Answer A)
      → ((report : List ℕ) → go (record { program = unstated_program p; report = report }) ≡ go (record { program = p; report = report }))
      → (accept (without_statements s) >>= go) ≡ (accept s >>= go)
  unfolding accept
  answers_alike go same = rw (sound_unstated s p is_sound, is_sound, report_unstated s p is_sound other) (cases (judge_program p))
    where
      cases : (m : Answer (List ℕ))
          → ((m >>= λ report. Ok (record { program = unstated_program p; report = report })) >>= go) ≡ ((m >>= λ report. Ok (record { program = p; report = report })) >>= go)
      cases (Ok report) = same report
      cases (Err r) = refl

  judged_alike : (room : ℕ) → judge_answer (without_statements s) room ≡ judge_answer s room
  unfolding judge_answer
  judged_alike room = answers_alike _ (λ report. refl)

  ran_alike : (list : List ℕ) (room : ℕ) → run_answer (without_statements s) list room ≡ run_answer s list room
  unfolding run_answer state_size unstated_program
  ran_alike list room = answers_alike _ (λ report. rw (run_unstated p list))

  pub unstated_alike : (list buffer : List ℕ)
      → (judge_answer (without_statements s) (length buffer) ≡ judge_answer s (length buffer))
      × (judge_buffer (without_statements s) buffer ≡ judge_buffer s buffer)
      × (run_answer (without_statements s) list (length buffer) ≡ run_answer s list (length buffer))
      × (run_buffer (without_statements s) list buffer ≡ run_buffer s list buffer)
  unfolding judge_buffer run_buffer
  unstated_alike list buffer = (
    judged_alike (length buffer),
    ap (λ (x : Answer (List ℕ)). buffer_after (λ (report : List ℕ). report) x buffer) (judged_alike (length buffer)),
    ran_alike list (length buffer),
    ap (λ (x : Answer Run). buffer_after (λ (r : Run). state_bytes r.state) x buffer) (ran_alike list (length buffer)),
  )
