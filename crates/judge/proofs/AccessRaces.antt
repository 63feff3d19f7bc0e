-- Two threads' accesses of one variable, one of them a WRITE, that the lock discipline permits: what the proof of demand 3 asks of the rule
-- for open variables. Assumes nothing.
--     conflict      the variable is open
--     race_atomic   and the first of the two is A; so is the other, with the threads exchanged
use Rattle.std.proofs.Common.{ℕ, eqb-true, ◌≡◌, refl, sym, ap, ◌∙◌, ◌≢◌, Bool, true, false, ◌||◌}
use mathlib.Core.Logic.{Ne-symm}
use Rattle.atomicity.specs.declared.Atomicity.TheVariants as atomicity
use Rattle.program.proofs.Differ.{differ}
use Rattle.program.proofs.Writers.{written_by}
use Rattle.program.specs.Layout.{Program, code_of}
use Rattle.program.specs.Writers.{has_write, written_by_other}
use Rattle.program.specs.declared.variable.Kind.{Kind}
use Rattle.program.specs.declared.variable.Kind.TheVariants.{Guarded, Own, Fixed, Open}
use Rattle.judge.specs.Discipline.{kind_at, permits, may_race, kind_atomicity, access_atomicity}
use Rattle.judge.specs.LockSet.{holds}
use Rattle.judge.specs.declared.lock_set.LockSet.{LockSet}

-- an access of an open variable that may race is A
open_atomic : (p : Program) (t v : ℕ) (w : Bool) → kind_at p v ≡ Open → may_race w (written_by_other p t v) ≡ true
    → access_atomicity p t v w ≡ atomicity.Atomic
unfolding access_atomicity
open_atomic p t v w e o = ap (λ (k : Kind). kind_atomicity k (may_race w (written_by_other p t v))) e ∙ ap (kind_atomicity Open) o

-- of two accesses, one of them a WRITE, each may race: it is the WRITE, or the other thread writes the variable
may_race_lem : (p : Program) (t u v : ℕ) (w w' : Bool) → u ≢ t → (w || w') ≡ true → (w' ≡ true → has_write v (code_of p u) ≡ true)
    → may_race w (written_by_other p t v) ≡ true
may_race_lem p t u v true w' n o has = refl
may_race_lem p t u v false w' n o has = written_by p t u v n (has o)

-- thread t with the lock set s and thread u with s', which have no lock in common
module _ {t u : ℕ} (different : t ≢ u) (s s' : LockSet) (exclusive : (l : ℕ) → holds s l ≡ true → holds s' l ≡ true → ⊥) where
  conflict : (k : Kind) (w w' : Bool) → permits k t s w ≡ true → permits k u s' w' ≡ true → (w || w') ≡ true → k ≡ Open
  unfolding permits
  conflict (Guarded g) w w' h h' o = absurd (exclusive g h h')
  conflict (Own g) w w' h h' o = absurd (different (sym (eqb-true g t h) ∙ eqb-true g u h'))
  conflict Fixed true w' h h' o = differ cc
  conflict Fixed false true h h' o = differ cc
  conflict Fixed false false h h' o = differ cc
  conflict Open w w' h h' o = refl

  -- t's access; u's, if it is a WRITE, stands in u's code
  pub race_atomic : (p : Program) (v : ℕ) (w w' : Bool) → (w || w') ≡ true → permits (kind_at p v) t s w ≡ true → permits (kind_at p v) u s' w' ≡ true
      → (w' ≡ true → has_write v (code_of p u) ≡ true) → access_atomicity p t v w ≡ atomicity.Atomic
  race_atomic p v w w' o h h' has =
      open_atomic p t v w (conflict (kind_at p v) w w' h h' o) (may_race_lem p t u v w w' (Ne-symm different) o has)
