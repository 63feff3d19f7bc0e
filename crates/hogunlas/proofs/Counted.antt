-- What run's counts sum to (the standard, "The step machine"), of every answer. Assumes nothing.
--     accepted_threads   an accepted program has at most eight threads
--     answer_adds_up     "A thread's three counts sum to how often the list names it, and all together sum to the list's length", and
--                        "those of a thread that the file does not have are 0"
use Rattle.std.proofs.Common.{ℕ, ◌≤◌, ◌≡◌, ap, ◌∙◌, subst, List, ltb, leb, length, get_or, Ok}
use Rattle.judge.specs.Acceptance.{Accepted, accept, sound}
use Rattle.judge.specs.Judging.{judge_program}
use Rattle.machine.proofs.Sums.{run_adds_up}
use Rattle.machine.specs.Run.{Run, run, AddsUp}
use Rattle.program.proofs.Answer.{fine_inj, bind_inv, require_inv, none_inv}
use Rattle.program.proofs.Sound.{sound_file}
use Rattle.program.specs.Answer.{Answer, require, require_none}
use Rattle.program.specs.Choice.{first_bad}
use Rattle.program.specs.Layout.{Program, program_of, reading}
use Rattle.program.specs.Limits.{thread_limit, list_limit}
use Rattle.program.specs.declared.refusal.Refusal.TheVariants.{LongList, ThreadNumber, ShortBuffer}
use Rattle.hogunlas.specs.Calls.{state_size, run_answer}
use Rattle.hogunlas.proofs.Running.{every_entry}

accepted_threads : (s : List ℕ) (a : Accepted) → accept s ≡ Ok a → a.program.threads ≤ thread_limit
unfolding accept sound program_of
accepted_threads s a e =
    bind_inv (sound s) _ e λ p e₁ f₁.
    bind_inv (judge_program p) _ f₁ λ report e₂ f₂.
    let same : p ≡ a.program = ap (λ (a : Accepted). a.program) (fine_inj _ a f₂) in
    bind_inv (reading s) _ e₁ λ l reads answer.
    subst (λ (q : Program). q.threads ≤ thread_limit) (fine_inj (program_of s l) p answer ∙ same) (sound_file s l reads).threads

pub answer_adds_up : (s list : List ℕ) (room : ℕ) (r : Run) → run_answer s list room ≡ Ok r
    → (a : Accepted) × (accept s ≡ Ok a) × AddsUp a.program list r.counts
unfolding run_answer
answer_adds_up s list room r e =
    bind_inv (accept s) _ e λ a e₁ f₁.
    let found = first_bad (λ i. ltb (get_or list i 0) a.program.threads) 1 (length list) 0 in
    let size = state_size a.program in
    let ran : Answer Run = Ok (run a.program list) in
    let fits : Answer Run = require (leb size room) (ShortBuffer size) ran in
    let named : Answer Run = require_none found ThreadNumber fits in
    require_inv (leb (length list) list_limit) (LongList list_limit) named f₁ λ short f₂.
    none_inv found ThreadNumber fits f₂ λ searched f₃.
    require_inv (leb size room) (ShortBuffer size) ran f₃ λ enough f₄.
    let adds = run_adds_up a.program list (accepted_threads s a e₁) (every_entry a.program.threads list searched) in
    (a, e₁, subst (λ (q : Run). AddsUp a.program list q.counts) (fine_inj (run a.program list) r f₄) adds)
