-- Demand 3 does not hold of every sound file: of the one in `specs/Internal/Unserialized.antt` and its list there is no uninterrupted list with the
-- same end. So the file has to be refused. Computed. Assumes nothing.
--     two_writes_refused         the file is sound, and is refused with 13
--     two_writes_threads         the list's entries are numbers of its threads
--     two_writes_nobody          after the list no thread stands inside a block
--     two_writes_unserialized    and no uninterrupted list ends alike
--     two_writes_to_refuse       no judging that has demand 3 accepts the file
use Rattle.std.proofs.Common.{ℕ, zero, suc, ◌<◌, arith, ◌≡◌, refl, sym, ap, ◌∙◌, subst, ◌≢◌, Bool, true, not, ◌&&◌, List, [], ◌∷◌, T, T_not, lit<, get_or, Ok, Err}
use Rattle.std.proofs.Math.Facts.{and_yes}
use Rattle.program.specs.Choice.{choose}
use Rattle.program.specs.Layout.{Program}
use Rattle.program.specs.declared.refusal.Refusal.TheVariants.{NotAtomic}
use Rattle.judge.specs.Acceptance.{sound, accept}
use Rattle.judge.proofs.Definitions.{judging_definitions}
use Rattle.machine.specs.Block.{OthersOutside, NobodyInside, UninterruptedFrom, Uninterrupted}
use Rattle.machine.specs.Run.{Run, Entries, run_from, run}
use Rattle.machine.specs.State.{State, start}
use Rattle.machine.specs.Step.{outcome, step}
use Rattle.machine.specs.declared.thread.Outcome.TheVariants.{Moved}
use Rattle.machine.proofs.Definitions.{running_definitions}
use Rattle.soundness.specs.Demand.{ThreadsOf, Serialized}
use Rattle.soundness.proofs.Example.{all_below_lem}
use Rattle.soundness.specs.Internal.Unserialized.{two_writes, two_writes_program, between_writes, sees_between, may_move, never}

-- ---- a search that finds nothing

module _ (p : Program) (two : p.threads ≡ 2) (test : State → Bool) where
  -- what the search says of the lists that go on with thread t
  abbrev onward : ℕ → State → (t u : ℕ) → Bool
  onward n s t u = choose (may_move p s t u) (never p test n (step p t s)) true

  -- it went on with each move that an uninterrupted list may make
  searched : (n : ℕ) (s : State) (t u : ℕ) → u < 2 → u ≢ t → outcome p t s ≡ Moved → OthersOutside p s t
      → T (onward n s t u) → T (never p test n (step p t s))
  unfolding may_move OthersOutside
  searched n s t u small other moves outside h =
      let o = outside u (subst (λ (k : ℕ). u < k) (sym two) small) other in
      rw (moves, o) at h

  parts : (n : ℕ) (s : State) → T (never p test (suc n) s) → T (not (test s)) × T (onward n s 0 1) × T (onward n s 1 0)
  unfolding never
  parts n s e =
      let both = and_yes (not (test s) && onward n s 0 1) (onward n s 1 0) e in
      let first = and_yes (not (test s)) (onward n s 0 1) both.0 in
      (first.0, first.1, both.1)

  never_reached : (n : ℕ) (ts : List ℕ) (r : Run) → T (never p test n r.state) → Entries 2 ts → UninterruptedFrom p r.state ts
      → test (run_from p r ts).state ≡ true → ⊥
  unfolding never run_from UninterruptedFrom Entries
  never_reached zero ts r e threads h found = e
  never_reached (suc n) [] r e threads h found =
      T_not (test r.state) (parts n r.state e).0 (subst T (sym found) tt)
  never_reached (suc n) (zero ∷ ts) r e threads h found =
      never_reached n ts _ (searched n r.state 0 1 (lit< tt) (λ z. omega arith) h.0 h.1 (parts n r.state e).1)
      (λ i l. threads (suc i) (omega arith)) h.2 found
  never_reached (suc n) (suc zero ∷ ts) r e threads h found =
      never_reached n ts _ (searched n r.state 1 0 (lit< tt) (λ z. omega arith) h.0 h.1 (parts n r.state e).2)
      (λ i l. threads (suc i) (omega arith)) h.2 found
  never_reached (suc n) (suc (suc t) ∷ ts) r e threads h found = let z = threads 0 (omega arith) in absurd (omega (arith, z))

-- ---- the file

-- all definitions open
unfoldable definitions : Unit {0}
unfolding judging_definitions running_definitions two_writes two_writes_program between_writes sees_between may_move never
definitions = tt

pub two_writes_refused : (sound two_writes ≡ Ok two_writes_program) × (accept two_writes ≡ Err (NotAtomic 31))
unfolding definitions
two_writes_refused = (refl, refl)

pub two_writes_threads : ThreadsOf two_writes_program between_writes
unfolding definitions
two_writes_threads = all_below_lem 2 between_writes tt

pub two_writes_nobody : NobodyInside two_writes_program (run two_writes_program between_writes).state
unfolding definitions
two_writes_nobody zero h = refl
two_writes_nobody (suc zero) h = refl
two_writes_nobody (suc (suc u)) h = absurd (omega arith)

two_threads_lem : two_writes_program.threads ≡ 2
unfolding definitions
two_threads_lem = refl

-- thread 1 sees v0 new and v1 old
seen : sees_between (run two_writes_program between_writes).state ≡ true
unfolding definitions
seen = refl

-- six moves are all that the two threads have
never_seen : T (never two_writes_program sees_between 7 (start two_writes_program))
unfolding definitions
never_seen = tt

pub two_writes_unserialized : Serialized two_writes_program between_writes → ⊥
unfolding run Uninterrupted Entries
two_writes_unserialized r =
    never_reached two_writes_program two_threads_lem sees_between 7 r.serial _ never_seen
    (λ i h. subst (λ (k : ℕ). get_or r.serial i 0 < k) two_threads_lem (r.threads i h)) r.uninterrupted (ap sees_between r.same_state ∙ seen)

-- whatever accepts only programs of which demand 3 holds does not accept this one
pub two_writes_to_refuse : (accepts : Program → Type 0)
    → ((p : Program) → accepts p → (list : List ℕ) → ThreadsOf p list → NobodyInside p (run p list).state → Serialized p list)
    → accepts two_writes_program → ⊥
two_writes_to_refuse accepts demand a =
    two_writes_unserialized (demand two_writes_program a between_writes two_writes_threads two_writes_nobody)
