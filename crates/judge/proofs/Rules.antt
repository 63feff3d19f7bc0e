-- Judging code is deriving by the rules (`specs/Rules.antt`).
--     not_top, top_not, truly_states, states_truly_lem
--                                a block's tests, and its rule's side conditions
--     judge_typed                what judging finds has a derivation
--     typed_judge                what has a derivation, judging finds, its report included
--     judge_report               the derivation that judging finds has the report that judging makes
--     judge_exactly              both: well formed code is judged fine exactly with what a derivation says
--     typed_unique               code has one lock set after it, one atomicity and one report at most
-- Assumes nothing.
use Rattle.std.proofs.Common.{ℕ, ◌+◌, ◌*◌, ◌≡◌, refl, sym, ap, ◌∙◌, subst, ◌≢◌, ◌↔◌, Bool, true, false, not, List, eqb, eqb-true, eq-eqb, Ok}
use mathlib.Core.Bool.{or-true}
use Rattle.atomicity.specs.Atomicity.{report_byte}
use Rattle.atomicity.specs.declared.Atomicity.{Atomicity}
use Rattle.atomicity.specs.declared.Atomicity.TheVariants as atomicity
use Rattle.program.specs.View.{access_of}
use Rattle.program.specs.Answer.{Answer}
use Rattle.program.specs.Code.{Code, done, plain, choice, loop, block, size}
use Rattle.program.specs.Layout.{Program}
use Rattle.program.specs.Internal.WellFormed.{WellFormed}
use Rattle.program.proofs.Answer.{fine_inj, bind_inv, require_inv, bind_on, require_on}
use Rattle.program.proofs.Decode.{or_right}
use Rattle.program.proofs.Differ.{differ}
use Rattle.judge.specs.Discipline.{lock_set_after}
use Rattle.judge.specs.Judging.{Finding, is_top, states_truly, judge}
use Rattle.judge.specs.LockSet.{same}
use Rattle.judge.specs.Rules.{States, states_nothing, states_it, Typed, typed_done, typed_plain, typed_choice, typed_loop, typed_block, report}
use Rattle.judge.specs.declared.lock_set.LockSet.{LockSet}
use Rattle.judge.proofs.Legal.{judged_legal, legal_judged}
use Rattle.judge.proofs.LockSets.{same_eq, same_self}

-- ---- the side conditions

not_top : (a : Atomicity) → not (is_top a) ≡ true → a ≢ atomicity.Top
unfolding is_top
not_top a e f =
    let z : ◌≡◌ {A = Bool} false true = subst (λ (x : Atomicity). not (eqb (report_byte x) 5) ≡ true) f e in
    differ cc

top_not : (a : Atomicity) → a ≢ atomicity.Top → not (is_top a) ≡ true
unfolding is_top
top_not atomicity.Both n = refl
top_not atomicity.Left n = refl
top_not atomicity.Right n = refl
top_not atomicity.Atomic n = refl
top_not atomicity.Top n = absurd (n refl)

truly_states : (n : ℕ) (a : Atomicity) → states_truly n a ≡ true → States n a
unfolding states_truly
truly_states n a e = cases (eqb n 0) refl
  where
    cases : (nothing : Bool) → eqb n 0 ≡ nothing → States n a
    cases true z = subst (λ (m : ℕ). States m a) (sym (eqb-true n 0 z)) states_nothing
    cases false z = subst (λ (m : ℕ). States m a) (sym (eqb-true n (report_byte a) (or_right (eqb n 0) (eqb n (report_byte a)) e z))) states_it

states_truly_lem : {n : ℕ} {a : Atomicity} → States n a → states_truly n a ≡ true
unfolding states_truly
states_truly_lem states_nothing = refl
states_truly_lem {a = a} states_it = rw (eq-eqb (report_byte a) (report_byte a) refl) (or-true (eqb (report_byte a) 0))

module _ (p : Program) (t : ℕ) where
  -- ---- from judging to a derivation

  typed_found : {s : LockSet} {c : Code} (j r : Finding) → ◌≡◌ {A = Answer Finding} (Ok j) (Ok r) → Typed p t s c j.locks j.atomicity
      → Typed p t s c r.locks r.atomicity
  typed_found {s} {c} j r e = subst (λ (x : Finding). Typed p t s c x.locks x.atomicity) (fine_inj j r e)

  -- what judging finds has a derivation
  pub judge_typed : (c : Code) → WellFormed c → (d : ℕ) (s : LockSet) {r : Finding} → judge p t d s c ≡ Ok r
      → Typed p t s c r.locks r.atomicity
  unfolding judge lock_set_after WellFormed
  judge_typed done w d s e = typed_found _ _ e typed_done
  judge_typed (plain i c) w d s e =
      bind_inv (lock_set_after p t d i s) _ e λ s' e₁ f₁.
      bind_inv (judge p t (d + 4) s' c) _ f₁ λ rest e₂ f₂.
      typed_found _ _ f₂ (typed_plain w.0 (judged_legal p t (access_of i) d s e₁) (judge_typed c w.1 (d + 4) s' e₂))
  judge_typed (choice r a b c) w d s e =
      bind_inv (judge p t (d + 4) s a) _ e λ first e₁ f₁.
      bind_inv (judge p t (d + 4 + 4 * size a + 4) s b) _ f₁ λ second e₂ f₂.
      require_inv (same first.locks second.locks) _ _ f₂ λ e₃ f₃.
      bind_inv (judge p t (d + 4 + 4 * size a + 4 + 4 * size b + 4) first.locks c) _ f₃ λ rest e₄ f₄.
      let one = judge_typed a w.0 (d + 4) s e₁ in
      let two = judge_typed b w.1 (d + 4 + 4 * size a + 4) s e₂ in
      typed_found _ _ f₄
      (typed_choice one (rw (same_eq first.locks second.locks e₃) two) (judge_typed c w.2 _ first.locks e₄))
  judge_typed (loop r a c) w d s e =
      bind_inv (judge p t (d + 4) s a) _ e λ body e₁ f₁.
      require_inv (same s body.locks) _ _ f₁ λ e₂ f₂.
      bind_inv (judge p t (d + 4 + 4 * size a + 4) s c) _ f₂ λ rest e₃ f₃.
      let turn = judge_typed a w.0 (d + 4) s e₁ in
      typed_found _ _ f₃
      (typed_loop (subst (λ (s' : LockSet). Typed p t s a s' body.atomicity) (sym (same_eq s body.locks e₂)) turn) (judge_typed c w.1 _ s e₃))
  judge_typed (block stated a c) w d s e =
      bind_inv (judge p t (d + 4) s a) _ e λ body e₁ f₁.
      require_inv (not (is_top body.atomicity)) _ _ f₁ λ e₂ f₂.
      require_inv (states_truly stated body.atomicity) _ _ f₂ λ e₃ f₃.
      bind_inv (judge p t (d + 4 + 4 * size a + 4) body.locks c) _ f₃ λ rest e₄ f₄.
      typed_found _ _ f₄
      (typed_block (judge_typed a w.0 (d + 4) s e₁) (not_top body.atomicity e₂) (truly_states stated body.atomicity e₃)
      (judge_typed c w.1 _ body.locks e₄))

  -- ---- from a derivation to judging

  -- what has a derivation, judging finds, at any offset
  pub typed_judge : {s s' : LockSet} {c : Code} {a : Atomicity} (D : Typed p t s c s' a) (d : ℕ)
      → judge p t d s c ≡ Ok (record { locks = s'; atomicity = a; report = report D })
  unfolding judge lock_set_after report
  typed_judge typed_done d = refl
  typed_judge (typed_plain {i = i} {next = c} {s = s} {s' = s'} f l rest) d =
      bind_on (lock_set_after p t d i s) _ (legal_judged p t l d)
      (bind_on (judge p t (d + 4) s' c) _ (typed_judge rest (d + 4)) refl)
  typed_judge (typed_choice {a = a} {b = b} {next = c} {s = s} {s' = s'} first second rest) d =
      bind_on (judge p t (d + 4) s a) _ (typed_judge first (d + 4))
      (bind_on (judge p t (d + 4 + 4 * size a + 4) s b) _ (typed_judge second _)
      (require_on (same s' s') _ _ (same_self s')
      (bind_on (judge p t (d + 4 + 4 * size a + 4 + 4 * size b + 4) s' c) _ (typed_judge rest _) refl)))
  typed_judge (typed_loop {a = a} {next = c} {s = s} body rest) d =
      bind_on (judge p t (d + 4) s a) _ (typed_judge body (d + 4))
      (require_on (same s s) _ _ (same_self s)
      (bind_on (judge p t (d + 4 + 4 * size a + 4) s c) _ (typed_judge rest _) refl))
  typed_judge (typed_block {n = stated} {a = a} {next = c} {s = s} {s' = s'} {x = x} body n states rest) d =
      bind_on (judge p t (d + 4) s a) _ (typed_judge body (d + 4))
      (require_on (not (is_top x)) _ _ (top_not x n)
      (require_on (states_truly stated x) _ _ (states_truly_lem states)
      (bind_on (judge p t (d + 4 + 4 * size a + 4) s' c) _ (typed_judge rest _) refl)))

  -- the derivation that judging finds has the report that judging makes
  pub judge_report : (c : Code) → WellFormed c → (d : ℕ) (s : LockSet) {r : Finding} → judge p t d s c ≡ Ok r
      → (D : Typed p t s c r.locks r.atomicity) × (report D ≡ r.report)
  judge_report c w d s {r} e =
      let D = judge_typed c w d s e in
      (D, ap (λ (x : Finding). x.report) (fine_inj _ r (sym (typed_judge D d) ∙ e)))

  -- well formed code is judged fine exactly with what a derivation says
  pub judge_exactly : (c : Code) → WellFormed c → (d : ℕ) (s : LockSet) (r : Finding)
      → (judge p t d s c ≡ Ok r) ↔ ((D : Typed p t s c r.locks r.atomicity) × (report D ≡ r.report))
  judge_exactly c w d s r = (
    judge_report c w d s,
    λ h. typed_judge h.0 d ∙ ap (λ (bytes : List ℕ). Ok (record { locks = r.locks; atomicity = r.atomicity; report = bytes })) h.1,
  )

  -- code has one lock set after it, one atomicity and one report at most
  pub typed_unique : {s s₁ s₂ : LockSet} {c : Code} {a₁ a₂ : Atomicity} (D : Typed p t s c s₁ a₁) (E : Typed p t s c s₂ a₂)
      → (s₁ ≡ s₂) × (a₁ ≡ a₂) × (report D ≡ report E)
  typed_unique D E =
      let e = fine_inj _ _ (sym (typed_judge D 0) ∙ typed_judge E 0) in
      (ap (λ (x : Finding). x.locks) e, ap (λ (x : Finding). x.atomicity) e, ap (λ (x : Finding). x.report) e)
