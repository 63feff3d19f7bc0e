-- A legal access is permitted (`legal_permitted`), and leads to the lock set behind it (`legal_set`). Assumes nothing.
use Rattle.std.proofs.Common.{ℕ, ◌≡◌, refl, eq-eqb}
use Rattle.judge.specs.Discipline.{permits}
use Rattle.judge.specs.Rules.{Legal, legal_none, legal_read_guarded, legal_write_guarded, legal_read_own, legal_write_own, legal_read_fixed, legal_read_open, legal_write_open, legal_take, legal_give}
use Rattle.judge.specs.declared.lock_set.LockSet.{LockSet}
use Rattle.program.specs.View.{Access}
use Rattle.program.specs.Layout.{Program}
use Rattle.soundness.specs.Internal.Access.{set_after, Permitted, none_permitted, read_permitted, write_permitted, take-permitted, give_permitted}

module _ {p : Program} {t : ℕ} where
  -- a legal access is permitted
  pub legal_permitted : {x : Access} {s s' : LockSet} → Legal p t x s s' → Permitted p t s x
  unfolding permits
  legal_permitted legal_none = none_permitted
  legal_permitted (legal_read_guarded {v = v} k h) = read_permitted {v = v} (rw k h)
  legal_permitted (legal_write_guarded {v = v} k h) = write_permitted {v = v} (rw k h)
  legal_permitted (legal_read_own {v = v} k) = read_permitted {v = v} (rw k (eq-eqb t t refl))
  legal_permitted (legal_write_own {v = v} k) = write_permitted {v = v} (rw k (eq-eqb t t refl))
  legal_permitted (legal_read_fixed {v = v} k) = read_permitted {v = v} (rw k refl)
  legal_permitted (legal_read_open {v = v} k) = read_permitted {v = v} (rw k refl)
  legal_permitted (legal_write_open {v = v} k) = write_permitted {v = v} (rw k refl)
  legal_permitted (legal_take h) = take-permitted h
  legal_permitted (legal_give h) = give_permitted h

  -- and leads to the lock set behind it
  pub legal_set : {x : Access} {s s' : LockSet} → Legal p t x s s' → set_after x s ≡ s'
  unfolding set_after
  legal_set legal_none = refl
  legal_set (legal_read_guarded k h) = refl
  legal_set (legal_write_guarded k h) = refl
  legal_set (legal_read_own k) = refl
  legal_set (legal_write_own k) = refl
  legal_set (legal_read_fixed k) = refl
  legal_set (legal_read_open k) = refl
  legal_set (legal_write_open k) = refl
  legal_set (legal_take h) = refl
  legal_set (legal_give h) = refl
