-- A move keeps the locks held. Assumes nothing.
--     take-free    a lock that a TAKE may take is free
--     owns_moved   the thread that moves holds what its lock set says afterwards
--     owns_other   every other thread holds what it held
use Rattle.std.proofs.Common.{ℕ, ◌+◌, arith, eqb-true, ◌≡◌, sym, ◌∙◌, subst, ◌≢◌, Bool, true, false, List, length, get_or, get_or-set_same, get_or-set_other, eqb}
use borrow.Author.Tests.{not-false}
use Rattle.std.proofs.Math.Decide.{ℕ_discrete}
use Rattle.std.proofs.Math.Logic.{dite}
use Rattle.judge.specs.LockSet.{holds, without_lock}
use Rattle.judge.specs.declared.lock_set.LockSet.{LockSet}
use Rattle.judge.proofs.LockSets.{with_other, without_self, without_other}
use Rattle.program.proofs.Differ.{differ}
use Rattle.program.specs.View.{Access, none, reads, writes, takes, gives}
use Rattle.machine.specs.Step.{waits, locks_after}
use Rattle.program.specs.Layout.{Program}
use Rattle.program.specs.Internal.Sound.{AccessBelow}
use Rattle.soundness.specs.Internal.Access.{set_after, Permitted, take-permitted, give_permitted, Owns}

-- a lock that a TAKE may take is free
pub take-free : (k : ℕ) (ks : List ℕ) → waits (takes k) ks ≡ false → get_or ks k 0 ≡ 0
unfolding waits
take-free k ks e = eqb-true (get_or ks k 0) 0 (not-false (eqb (get_or ks k 0) 0) e)

-- a flag is not both in and out
set-unset : {b : Bool} → b ≡ true → b ≡ false → ⊥
set-unset e f = differ cc

module _ {p : Program} {t : ℕ} {s : LockSet} {ks : List ℕ} (mine : Owns t s ks) where
  -- the thread that moves holds what its lock set says afterwards
  pub owns_moved : (x : Access) → Permitted p t s x → AccessBelow (length ks) (length p.variables) x → Owns t (set_after x s) (locks_after x t ks)
  unfolding set_after locks_after
  owns_moved none h b = mine
  owns_moved (reads v) h b = mine
  owns_moved (writes v a) h b = mine
  owns_moved (takes k) (take-permitted unheld) b = record {
    owner = λ j e. dite (ℕ_discrete j k)
        (λ (i : j ≡ k). rw i (get_or-set_same ks k (t + 1) 0 b))
        (λ (n : j ≢ k). get_or-set_other ks k j (t + 1) 0 n ∙ mine.owner j (sym (with_other s k unheld j n) ∙ e));
  }
  owns_moved (gives k) (give_permitted held) b = record {
    owner = λ j e. dite (ℕ_discrete j k)
        (λ (i : j ≡ k). absurd (set-unset (subst (λ (x : ℕ). holds (without_lock s k) x ≡ true) i e) (without_self s k held)))
        (λ (n : j ≢ k). get_or-set_other ks k j 0 0 n ∙ mine.owner j (sym (without_other s k held j n) ∙ e));
  }

  -- and every other thread what it held
  pub owns_other : {u : ℕ} {s' : LockSet} → t ≢ u → Owns u s' ks → (x : Access) → Permitted p t s x → waits x ks ≡ false
      → Owns u s' (locks_after x t ks)
  unfolding locks_after
  owns_other n yours none h f = yours
  owns_other n yours (reads v) h f = yours
  owns_other n yours (writes v a) h f = yours
  owns_other {u} n yours (takes k) h f = record {
    owner = λ j e. dite (ℕ_discrete j k)
        (λ (i : j ≡ k). let free : get_or ks j 0 ≡ 0 = rw i (take-free k ks f) in absurd (omega (arith, yours.owner j e)))
        (λ (m : j ≢ k). get_or-set_other ks k j (t + 1) 0 m ∙ yours.owner j e);
  }
  owns_other {u} n yours (gives k) (give_permitted h) f = record {
    owner = λ j e. dite (ℕ_discrete j k)
        (λ (i : j ≡ k). let held : get_or ks j 0 ≡ t + 1 = rw i (mine.owner k h) in absurd (n (omega (arith, yours.owner j e))))
        (λ (m : j ≢ k). get_or-set_other ks k j 0 0 m ∙ yours.owner j e);
  }
