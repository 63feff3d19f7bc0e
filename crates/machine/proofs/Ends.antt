-- A thread that has come to its code's end stays there, so one that is not there was never idle. Assumes nothing.
--     AtEnd         a thread is at its code's end
--     other_thread  an entry leaves the other threads where they are
--     run_stays     a thread at its end stays there
--     never_idle    a thread that is not at its end after a list was idle at no entry of it
use Rattle.std.proofs.Common.{◌≡◌, ℕ, Bool, true, false, eqb, ◌≢◌, List, [], ◌∷◌, length, get_or, refl, ap, ◌∙◌, get_or-set_other, eq-eqb, eqb-true}
use native.Mathlib.Decide.{ℕ_discrete}
use Rattle.program.specs.Choice.{choose}
use Rattle.program.specs.Layout.{Program, code_of}
use Rattle.program.specs.View.{access_of}
use Rattle.program.proofs.Differ.{differ}
use Rattle.machine.specs.State.{State, fresh, thread_of}
use Rattle.machine.specs.Step.{waits, instruction_of, move_by, outcome, after, step}
use Rattle.machine.specs.Run.{Run, uncounted, counts_of, counted_for, run_from}
use Rattle.machine.specs.declared.counts.Counts.{Counts}
use Rattle.machine.specs.declared.thread.Outcome.{Outcome}
use Rattle.machine.specs.declared.thread.Outcome.TheVariants.{Moved, Waiting, Idle}
use Rattle.machine.specs.declared.thread.Thread.{Thread}
use Rattle.machine.proofs.Sums.{count_kept}
use Rattle.machine.proofs.Entry.{after_entry}

abbrev pub AtEnd : Program → State → ℕ → Type 0
AtEnd p s t = (thread_of s t).place ≡ length (code_of p t)

-- the idle count of thread t, after an entry of thread u
not_idle : (o : Outcome) (cs : List Counts) (u t : ℕ) → (o ≡ Idle → t ≢ u) → (counts_of (counted_for u o cs) t).idle ≡ (counts_of cs t).idle
unfolding counts_of counted_for
not_idle Moved cs u t n = count_kept (λ (c : Counts). c.idle) Moved cs u t refl
not_idle Waiting cs u t n = count_kept (λ (c : Counts). c.idle) Waiting cs u t refl
not_idle Idle cs u t n = ap (λ (c : Counts). c.idle) (get_or-set_other cs u t _ uncounted (n refl))

module _ (p : Program) where
  pub other_thread : (u : ℕ) (s : State) (t : ℕ) → t ≢ u → thread_of (step p u s) t ≡ thread_of s t
  unfolding step thread_of move_by
  other_thread u s t n = by_outcome (outcome p u s)
    where
      by_outcome : (o : Outcome) → get_or (after o s (move_by (instruction_of p u s) u s)).threads t fresh ≡ get_or s.threads t fresh
      by_outcome Moved = get_or-set_other s.threads u t _ fresh n
      by_outcome Waiting = refl
      by_outcome Idle = refl

  at_end_idle : (s : State) (t : ℕ) → AtEnd p s t → outcome p t s ≡ Idle
  unfolding outcome
  at_end_idle s t e = rw (eq-eqb _ _ e)

  idle_at_end : (s : State) (t : ℕ) → outcome p t s ≡ Idle → AtEnd p s t
  unfolding outcome
  idle_at_end s t = by_test (eqb (thread_of s t).place (length (code_of p t))) refl (waits (access_of (instruction_of p t s)) s.locks)
    where
      by_test : (b : Bool) → eqb (thread_of s t).place (length (code_of p t)) ≡ b → (w : Bool) → choose b Idle (choose w Waiting Moved) ≡ Idle → AtEnd p s t
      by_test true f w e = eqb-true _ _ f
      by_test false f true e = differ cc
      by_test false f false e = differ cc

  stays : (u : ℕ) (s : State) (t : ℕ) → AtEnd p s t → AtEnd p (step p u s) t
  unfolding step
  stays u s t e = elim (ℕ_discrete t u) [
    | yes same ↦ rw (← same, at_end_idle s t e) e
    | no other ↦ ap (λ (th : Thread). th.place) (other_thread u s t other) ∙ e
  ]

  pub run_stays : (r : Run) (ts : List ℕ) (t : ℕ) → AtEnd p r.state t → AtEnd p (run_from p r ts).state t
  unfolding run_from
  run_stays r [] t e = e
  run_stays r (u ∷ us) t e = run_stays (after_entry p r u) us t (stays u r.state t e)

  pub never_idle : (r : Run) (ts : List ℕ) (t : ℕ) → (AtEnd p (run_from p r ts).state t → ⊥)
      → (counts_of (run_from p r ts).counts t).idle ≡ (counts_of r.counts t).idle
  unfolding run_from
  never_idle r [] t n = refl
  never_idle r (u ∷ us) t n =
      never_idle (after_entry p r u) us t n
      ∙ not_idle (outcome p u r.state) r.counts u t
      (λ e same. n (run_stays _ us t (stays u r.state t (idle_at_end r.state t (rw same e)))))
