-- A file is accepted exactly where it is sound and its program has a derivation, and then the report is the derivation's (the standard,
-- "What is promised": "A sound file is accepted exactly when the rules .. hold of it").
--     sound_codes_nested                a sound file's code is well nested
--     accept_judged                     an accepted file is a sound one whose program is judged fine
--     demand2                           demand 2, of judging
--     accepted_exactly                  a sound file is accepted exactly when a derivation exists
-- Assumes nothing.
use Rattle.std.proofs.Common.{ℕ, ◌≡◌, refl, subst, ◌↔◌, List, Ok}
use Rattle.program.specs.Layout.{Program, program_of, reading}
use Rattle.program.proofs.Answer.{fine_inj, bind_inv, bind_on}
use Rattle.program.proofs.Sound.{sound_file}
use Rattle.judge.specs.Acceptance.{Accepted, sound, accept}
use Rattle.judge.specs.Demand.{Demand2}
use Rattle.judge.specs.Judging.{judge_program}
use Rattle.judge.specs.Rules.{TypedProgram, program_report}
use Rattle.judge.specs.Internal.Nested.{Nested}
use Rattle.judge.proofs.NestedSections.{sections_nested}
use Rattle.judge.proofs.RulesProgram.{program_exactly}

-- ---- a sound file

-- a sound file's code is well nested
pub sound_codes_nested : (s : List ℕ) {p : Program} → sound s ≡ Ok p → Nested p.codes
unfolding sound program_of
sound_codes_nested s {p} e =
    bind_inv (reading s) _ e λ l reads answer.
    let h = sound_file s l reads in
    subst (λ (p : Program). Nested p.codes) (fine_inj (program_of s l) p answer)
    (sections_nested s l.locks l.variables l.threads _ l.instructions h.sections)

-- ---- an accepted file

-- an accepted file is a sound one whose program is judged fine
pub accept_judged : (s : List ℕ) (a : Accepted) → (accept s ≡ Ok a) ↔ ((sound s ≡ Ok a.program) × (judge_program a.program ≡ Ok a.report))
unfolding accept
accept_judged s a = (
  (λ e.
      bind_inv (sound s) _ e λ p e₁ f₁.
      bind_inv (judge_program p) _ f₁ λ bytes e₂ f₂.
      let f : ◌≡◌ {A = Accepted} (record { program = p; report = bytes }) a = fine_inj _ a f₂ in (
        subst (λ (x : Accepted). sound s ≡ Ok x.program) f e₁,
        subst (λ (x : Accepted). judge_program x.program ≡ Ok x.report) f e₂,
      )),
  λ h. bind_on (sound s) _ h.0 (bind_on (judge_program a.program) _ h.1 refl),
)

-- an accepted file is a sound one whose program has a derivation, and its report is the derivation's
pub demand2 : (s : List ℕ) → Demand2 s
unfolding Demand2
demand2 s a = (
  (λ e. let (e₁, e₂) = (accept_judged s a).0 e in (e₁, (program_exactly a.program (sound_codes_nested s e₁) a.report).0 e₂)),
  λ h. (accept_judged s a).1 (h.0, (program_exactly a.program (sound_codes_nested s h.0) a.report).1 h.1),
)

-- a sound file is accepted exactly when a derivation of its program exists
pub accepted_exactly : (s : List ℕ) (p : Program) → sound s ≡ Ok p
    → ((bytes : List ℕ) × (accept s ≡ Ok (record { program = p; report = bytes }))) ↔ TypedProgram p
unfolding Demand2
accepted_exactly s p e = (
  (λ h. ((demand2 s (record { program = p; report = h.0 })).0 h.1).1.0),
  λ D. (program_report D, (demand2 s (record { program = p; report = program_report D })).1 (e, (D, refl))),
)
