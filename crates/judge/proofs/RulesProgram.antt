-- Judging a code, a program and a file is deriving by the rules (`specs/Rules.antt`; `Rules` is the same for code).
--     exactly                                  an answer that is fine exactly with what can be derived
--     judged_code_typed, typed_code_judged     from judging a code to its derivation, and back
--     judged_codes_typed, typed_codes_judged   ... the codes from t on
--     program_exactly                          a program's report is what its derivation reports
-- Assumes nothing.
use Rattle.std.proofs.Common.{ℕ, suc, ◌≡◌, refl, sym, ap, ◌∙◌, subst, ◌↔◌, List, [], ◌∷◌, None, Ok}
use Rattle.program.specs.Answer.{Answer}
use Rattle.program.specs.Code.{structured}
use Rattle.program.specs.Layout.{Program, CodeSection}
use Rattle.program.specs.Nesting.{first_broken}
use Rattle.program.proofs.Answer.{fine_inj, bind_inv, require_inv, bind_on, require_on}
use Rattle.program.proofs.Structure.{nested_flat}
use Rattle.judge.specs.Judging.{judge, judge_code, judge_codes, judge_program}
use Rattle.judge.specs.LockSet.{empty, same}
use Rattle.judge.specs.Rules.{Typed, TypedCode, code_report, TypedCodes, typed_none, typed_code, codes_report, TypedProgram, program_report}
use Rattle.judge.specs.Internal.Nested.{Nested}
use Rattle.judge.specs.declared.lock_set.LockSet.{LockSet}
use Rattle.judge.proofs.LockSets.{same_eq, same_self}
use Rattle.judge.proofs.Rules.{judge_typed, typed_judge}

-- a fine answer gives a derivation, and a derivation a fine answer with its report: then it is fine with just what can be reported
pub exactly : {A B : Type 0} (x : Answer B) (f : A → B) → ((b : B) → x ≡ Ok b → A) → ((a : A) → x ≡ Ok (f a))
    → (b : B) → (x ≡ Ok b) ↔ ((a : A) × (f a ≡ b))
exactly {A = A} x f derive answer b = (
  (λ e. let a : A = derive b e in (a, fine_inj (f a) b (sym (answer a) ∙ e))),
  λ h. answer h.0 ∙ ap Ok h.1,
)

module _ (p : Program) where
  -- ---- a code

  -- judging finds a derivation of a code that is well nested
  pub judged_code_typed : (t : ℕ) (section : CodeSection) → first_broken 0 section.code [] ≡ None → {bytes : List ℕ}
      → judge_code p t section ≡ Ok bytes → TypedCode p t section.code
  unfolding judge_code
  judged_code_typed t section h e =
      let c = structured section.code in
      bind_inv (judge p t section.start empty c) _ e λ whole e₁ f₁.
      require_inv (same whole.locks empty) _ _ f₁ λ e₂ f₂.
      let D = judge_typed p t c (nested_flat section.code h).well_formed section.start empty e₁ in
      record {
        atomicity = whole.atomicity;
        typed = subst (λ (s : LockSet). Typed p t empty c s whole.atomicity) (same_eq whole.locks empty e₂) D;
      }

  -- judging a code makes its derivation's report
  pub typed_code_judged : (t : ℕ) (section : CodeSection) (T : TypedCode p t section.code) → judge_code p t section ≡ Ok (code_report T)
  unfolding judge_code code_report
  typed_code_judged t section T =
      bind_on (judge p t section.start empty (structured section.code)) _ (typed_judge p t T.typed section.start)
      (require_on (same empty empty) _ _ (same_self empty) refl)

  -- ---- the codes from t on

  pub judged_codes_typed : (t : ℕ) (sections : List CodeSection) → Nested sections → {bytes : List ℕ} → judge_codes p t sections ≡ Ok bytes
      → TypedCodes p t sections
  unfolding judge_codes Nested
  judged_codes_typed t [] h e = typed_none
  judged_codes_typed t (section ∷ sections) h e =
      bind_inv (judge_code p t section) _ e λ first e₁ f₁.
      bind_inv (judge_codes p (suc t) sections) _ f₁ λ rest e₂ f₂.
      typed_code (judged_code_typed t section h.0 e₁) (judged_codes_typed (suc t) sections h.1 e₂)

  pub typed_codes_judged : {t : ℕ} {sections : List CodeSection} (D : TypedCodes p t sections) → judge_codes p t sections ≡ Ok (codes_report D)
  unfolding judge_codes codes_report
  typed_codes_judged typed_none = refl
  typed_codes_judged (typed_code {c = t} {section = section} {sections = sections} T D) =
      bind_on (judge_code p t section) _ (typed_code_judged t section T)
      (bind_on (judge_codes p (suc t) sections) _ (typed_codes_judged D) refl)

  -- ---- a program

  -- a program whose code is well nested is judged fine with just the reports of its derivations
  pub program_exactly : Nested p.codes → (bytes : List ℕ) → (judge_program p ≡ Ok bytes) ↔ ((D : TypedProgram p) × (program_report D ≡ bytes))
  unfolding judge_program
  program_exactly h = exactly (judge_codes p 0 p.codes) codes_report (λ b e. judged_codes_typed 0 p.codes h e) typed_codes_judged
