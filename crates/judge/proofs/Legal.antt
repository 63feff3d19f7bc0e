-- The lock discipline as rules is the lock discipline of judging (`specs/Rules.antt`, `specs/Discipline.antt`).
--     judged_legal    an access that judging lets pass is legal
--     legal_judged    a legal access passes judging, at any offset
--     legal_exactly   both
--     set-alike, legal_alike
--                     programs with the same kinds of variables have the same lock discipline
-- Assumes nothing.
use Rattle.std.proofs.Common.{ℕ, ◌≡◌, refl, ap, ◌∙◌, subst, ◌↔◌, true, false, not, eqb, eqb-true, eq-eqb, Ok}
use borrow.Author.Tests.{not-true}
use Rattle.program.specs.View.{Access, none, reads, writes, takes, gives}
use Rattle.program.specs.Answer.{Answer, require}
use Rattle.program.specs.Layout.{Program}
use Rattle.program.specs.declared.refusal.Refusal.{Refusal}
use Rattle.program.specs.declared.variable.Kind.{Kind}
use Rattle.program.specs.declared.variable.Kind.TheVariants.{Guarded, Own, Fixed, Open}
use Rattle.program.proofs.Answer.{fine_inj, require_inv, require_on}
use Rattle.program.proofs.Differ.{differ}
use Rattle.judge.specs.Discipline.{permits, kind_at, accessed_set}
use Rattle.judge.specs.LockSet.{holds}
use Rattle.judge.specs.Rules.{Legal, legal_none, legal_read_guarded, legal_write_guarded, legal_read_own, legal_write_own, legal_read_fixed, legal_read_open, legal_write_open, legal_take, legal_give}
use Rattle.judge.specs.declared.lock_set.LockSet.{LockSet}

module _ (p : Program) (c : ℕ) where
  -- ---- from judging to the rules

  -- a legal access leads to what judging answers
  led : {x : Access} {s s₁ s₂ : LockSet} → Legal p c x s s₁ → ◌≡◌ {A = Answer LockSet} (Ok s₁) (Ok s₂) → Legal p c x s s₂
  led {x} {s} {s₁} {s₂} l e = subst (Legal p c x s) (fine_inj s₁ s₂ e) l

  -- by the variable's kind
  read_legal : (v : ℕ) (s : LockSet) (r : Refusal) (k : Kind) {s' : LockSet} → kind_at p v ≡ k
      → require (permits k c s false) r (Ok s) ≡ Ok s' → Legal p c (reads v) s s'
  unfolding permits
  read_legal v s r (Guarded g) k e = require_inv (holds s g) _ _ e λ h f. led (legal_read_guarded k h) f
  read_legal v s r (Own g) k e = require_inv (eqb g c) _ _ e λ h f. led (legal_read_own (k ∙ ap Own (eqb-true g c h))) f
  read_legal v s r Fixed k e = led (legal_read_fixed k) e
  read_legal v s r Open k e = led (legal_read_open k) e

  write_legal : (v a : ℕ) (s : LockSet) (r : Refusal) (k : Kind) {s' : LockSet} → kind_at p v ≡ k
      → require (permits k c s true) r (Ok s) ≡ Ok s' → Legal p c (writes v a) s s'
  unfolding permits
  write_legal v a s r (Guarded g) k e = require_inv (holds s g) _ _ e λ h f. led (legal_write_guarded k h) f
  write_legal v a s r (Own g) k e = require_inv (eqb g c) _ _ e λ h f. led (legal_write_own (k ∙ ap Own (eqb-true g c h))) f
  write_legal v a s r Fixed k e = require_inv false r (Ok s) e λ h f. differ cc
  write_legal v a s r Open k e = led (legal_write_open k) e

  pub judged_legal : (x : Access) (d : ℕ) (s : LockSet) {s' : LockSet} → accessed_set p c d x s ≡ Ok s' → Legal p c x s s'
  unfolding accessed_set
  judged_legal none d s e = led legal_none e
  judged_legal (reads v) d s e = read_legal v s _ (kind_at p v) refl e
  judged_legal (writes v a) d s e = write_legal v a s _ (kind_at p v) refl e
  judged_legal (takes k) d s e = require_inv (not (holds s k)) _ _ e λ h f. led (legal_take (not-true (holds s k) h)) f
  judged_legal (gives k) d s e = require_inv (holds s k) _ _ e λ h f. led (legal_give h) f

  -- ---- from the rules to judging

  pub legal_judged : {x : Access} {s s' : LockSet} → Legal p c x s s' → (d : ℕ) → accessed_set p c d x s ≡ Ok s'
  unfolding accessed_set permits
  legal_judged legal_none d = refl
  legal_judged (legal_read_guarded {g = g} {s = s} k h) d = rw k (require_on (holds s g) _ _ h refl)
  legal_judged (legal_write_guarded {g = g} {s = s} k h) d = rw k (require_on (holds s g) _ _ h refl)
  legal_judged (legal_read_own k) d = rw k (require_on (eqb c c) _ _ (eq-eqb c c refl) refl)
  legal_judged (legal_write_own k) d = rw k (require_on (eqb c c) _ _ (eq-eqb c c refl) refl)
  legal_judged (legal_read_fixed k) d = rw k refl
  legal_judged (legal_read_open k) d = rw k refl
  legal_judged (legal_write_open k) d = rw k refl
  legal_judged (legal_take {k = k} {s = s} h) d = require_on (not (holds s k)) _ _ (ap not h) refl
  legal_judged (legal_give {k = k} {s = s} h) d = require_on (holds s k) _ _ h refl

  -- an access passes judging exactly where a rule of the lock discipline says so
  pub legal_exactly : (x : Access) (d : ℕ) (s s' : LockSet) → (accessed_set p c d x s ≡ Ok s') ↔ Legal p c x s s'
  legal_exactly x d s s' = (judged_legal x d s, λ l. legal_judged l d)

-- the discipline looks at the kinds of variables, and at nothing else of a program
module _ (p q : Program) (same : (v : ℕ) → kind_at q v ≡ kind_at p v) where
  pub set-alike : (c d : ℕ) (x : Access) (s : LockSet) → accessed_set q c d x s ≡ accessed_set p c d x s
  unfolding accessed_set
  set-alike c d none s = refl
  set-alike c d (reads v) s = rw (same v)
  set-alike c d (writes v a) s = rw (same v)
  set-alike c d (takes k) s = refl
  set-alike c d (gives k) s = refl

  pub legal_alike : {c : ℕ} {x : Access} {s s' : LockSet} → Legal p c x s s' → Legal q c x s s'
  legal_alike {c} {x} {s} l = judged_legal q c x 0 s (set-alike c 0 x s ∙ legal_judged p c l 0)
