-- The rule for open variables and the earlier one (`specs/Internal/Earlier.antt`). Assumes nothing.
--     before_access    beside a writer of every variable, each access is what it was by the earlier rule
--     still_typed      what the rules derived, they derive without the statements, with an atomicity at or below
--     still_accepted   no file that was accepted is refused now. Such a file has no statements: with one it was refused (7)
use Rattle.std.proofs.Common.{ℕ, zero, suc, ◌<◌, arith, eq-eqb, ne_eqb, ◌≡◌, refl, sym, ap, ◌∙◌, subst, Bool, true, false, List, [], ◌∷◌, map, T, length, Ok}
use native.Mathlib.Decide.{ℕ_discrete}
use lib.ListN.{get_or-append}
use lib.Seq.{get_or-append_seam}
use Rattle.atomicity.proofs.Laws.{then_mono, order_refl, both_least, not_top_below, join_mono, closure_mono}
use Rattle.atomicity.specs.Atomicity.{composition, join, closure, at_most}
use Rattle.atomicity.specs.declared.Atomicity.{Atomicity}
use Rattle.atomicity.specs.declared.Atomicity.TheVariants as atomicity
use Rattle.program.proofs.Answer.{fine_inj}
use Rattle.program.proofs.Differ.{differ}
use Rattle.program.proofs.Unstated.{structured_unstated}
use Rattle.program.proofs.Writers.{written_by, writer_found}
use Rattle.program.specs.Code.{Code}
use Rattle.program.specs.Layout.{Program, CodeSection, code_of}
use Rattle.program.specs.Unstated.{without_statements}
use Rattle.program.specs.View.{Access, none, reads, writes, takes, gives, access_of}
use Rattle.program.specs.Writers.{has_write, written_by_other}
use Rattle.program.specs.Internal.Unstated.{unstated_code, unstated_section, unstated_program}
use Rattle.program.specs.declared.instruction.Instruction.{Instruction}
use Rattle.program.specs.declared.variable.Kind.{Kind}
use Rattle.program.specs.declared.variable.Kind.TheVariants.{Guarded, Own, Fixed, Open}
use Rattle.judge.specs.Acceptance.{sound, accept}
use Rattle.judge.specs.Discipline.{kind_at, may_race, kind_atomicity, access_atomicity, access_mover, mover_of, atomicity_of}
use Rattle.judge.specs.Rules.{states_nothing, Typed, typed_done, typed_plain, typed_choice, typed_loop, typed_block, TypedCodes, typed_none, typed_code}
use Rattle.judge.specs.LockSet.{empty}
use Rattle.judge.specs.Internal.Earlier.{writes_below, with_writer, judge_before}
use Rattle.judge.specs.Internal.Nested.{Nested}
use Rattle.judge.specs.declared.lock_set.LockSet.{LockSet}
use Rattle.judge.proofs.Legal.{legal_alike}
use Rattle.judge.proofs.RulesFile.{sound_codes_nested, accepted_exactly}
use Rattle.judge.proofs.RulesProgram.{judged_codes_typed}
use Rattle.judge.proofs.Unstated.{sound_unstated}

-- ---- the writer of every variable

writes_below_lem : (n v : ℕ) → v < n → has_write v (writes_below n) ≡ true
unfolding has_write writes_below access_of
writes_below_lem zero v h = absurd (omega arith)
writes_below_lem (suc n) v h = elim (ℕ_discrete n v) [
  | yes e ↦ rw (eq-eqb n v e)
  | no d ↦ rw (ne_eqb n v d) (writes_below_lem n v (omega (arith, d)))
]

-- ---- who may race

race_with_other : (w : Bool) → may_race w true ≡ true
race_with_other true = refl
race_with_other false = refl

race_mono : (w others still : Bool) → (others ≡ true → still ≡ true) → may_race w others ≡ true → may_race w still ≡ true
race_mono w others true h e = race_with_other w
race_mono w true false h e = let z = h refl in differ cc
race_mono w false false h e = e

module _ (p : Program) where
  written : (c v : ℕ) → c < length p.codes → v < length p.variables → written_by_other (with_writer p) c v ≡ true
  unfolding with_writer code_of
  written c v code variable =
      written_by (with_writer p) c (length p.codes) v (λ e. omega (arith, e))
      (ap (λ (x : CodeSection). has_write v x.code) (get_or-append_seam p.codes _ [] _) ∙ writes_below_lem (length p.variables) v variable)

  -- so an access of an open variable is A and any other B, as in version 1.0
  pub before_access : (c v : ℕ) (w : Bool) → c < length p.codes → v < length p.variables
      → access_atomicity (with_writer p) c v w ≡ kind_atomicity (kind_at p v) true
  unfolding access_atomicity kind_at with_writer
  before_access c v w code variable =
      ap (λ (o : Bool). kind_atomicity (kind_at p v) (may_race w o)) (written c v code variable) ∙ ap (kind_atomicity (kind_at p v)) (race_with_other w)

  -- ---- an access, now and then

  -- whoever writes a variable writes it beside one more
  written_still : (c v : ℕ) → written_by_other p c v ≡ true → written_by_other (with_writer p) c v ≡ true
  unfolding with_writer code_of
  written_still c v e =
      let w = writer_found p c v e in
      written_by (with_writer p) c w.0 v w.1
      (ap (λ (x : CodeSection). has_write v x.code) (get_or-append p.codes _ _ w.0 w.2) ∙ w.3)

  kind_below : (k : Kind) (races still : Bool) → (races ≡ true → still ≡ true) → T (at_most (kind_atomicity k races) (kind_atomicity k still))
  kind_below (Guarded g) races still h = order_refl atomicity.Both
  kind_below (Own g) races still h = order_refl atomicity.Both
  kind_below Fixed races still h = order_refl atomicity.Both
  kind_below Open true still h = rw (h refl) (order_refl atomicity.Atomic)
  kind_below Open false still h = both_least (kind_atomicity Open still)

  access_below : (c v : ℕ) (w : Bool) → T (at_most (access_atomicity p c v w) (access_atomicity (with_writer p) c v w))
  unfolding access_atomicity with_writer kind_at
  access_below c v w = kind_below (kind_at p v) _ _ (race_mono w (written_by_other p c v) (written_by_other (with_writer p) c v) (written_still c v))

  mover_below : (c : ℕ) (s : LockSet) (x : Access) → T (at_most (access_mover p c s x) (access_mover (with_writer p) c s x))
  unfolding access_mover
  mover_below c s none = order_refl atomicity.Both
  mover_below c s (reads v) = access_below c v false
  mover_below c s (writes v a) = access_below c v true
  mover_below c s (takes k) = order_refl atomicity.Right
  mover_below c s (gives k) = order_refl atomicity.Left

  atomicity_below : (c : ℕ) (s : LockSet) (i : Instruction) → T (at_most (atomicity_of p c s i) (atomicity_of (with_writer p) c s i))
  unfolding atomicity_of mover_of
  atomicity_below c s i = mover_below c s (access_of i)

  -- the kinds of variables are the same
  same_kind : (v : ℕ) → kind_at p v ≡ kind_at (with_writer p) v
  unfolding kind_at with_writer
  same_kind v = refl

  -- ---- the rules

  -- derived, with an atomicity at or below
  abbrev Still : (c : ℕ) → LockSet → Code → LockSet → Atomicity → Type 0
  Still c s x s' a = (b : Atomicity) × T (at_most b a) × Typed p c s x s' b

  pub still_typed : {c : ℕ} {s s' : LockSet} {x : Code} {a : Atomicity} → Typed (with_writer p) c s x s' a → Still c s (unstated_code x) s' a
  unfolding unstated_code
  still_typed typed_done = (atomicity.Both, order_refl atomicity.Both, typed_done)
  still_typed {c} (typed_plain {i} {s = s} {a = a} f l d) =
      let (b, h, e) = still_typed d in (
        composition (atomicity_of p c s i) b,
        then_mono (atomicity_of p c s i) (atomicity_of (with_writer p) c s i) b a (atomicity_below c s i) h,
        typed_plain f (legal_alike (with_writer p) p same_kind l) e,
      )
  still_typed (typed_choice {x = x} {y = y} {z = z} d₁ d₂ d) =
      let (b₁, h₁, e₁) = still_typed d₁ in
      let (b₂, h₂, e₂) = still_typed d₂ in
      let (b, h, e) = still_typed d in
      (composition (join b₁ b₂) b, then_mono (join b₁ b₂) (join x y) b z (join_mono b₁ x b₂ y h₁ h₂) h, typed_choice e₁ e₂ e)
  still_typed (typed_loop {x = x} {z = z} d₁ d) =
      let (b₁, h₁, e₁) = still_typed d₁ in
      let (b, h, e) = still_typed d in
      (composition (closure b₁) b, then_mono (closure b₁) (closure x) b z (closure_mono b₁ x h₁) h, typed_loop e₁ e)
  still_typed (typed_block {x = x} {z = z} d₁ n stated d) =
      let (b₁, h₁, e₁) = still_typed d₁ in
      let (b, h, e) = still_typed d in
      (composition b₁ b, then_mono b₁ x b z h₁ h, typed_block e₁ (not_top_below b₁ x h₁ n) states_nothing e)

  still_typed_codes : {c : ℕ} (xs : List CodeSection) → Nested xs → TypedCodes (with_writer p) c xs → TypedCodes p c (map unstated_section xs)
  unfolding Nested
  still_typed_codes [] nested typed_none = typed_none
  still_typed_codes {c} (x ∷ xs) nested (typed_code w d) =
      let (b, h, e) = still_typed w.typed in
      let here = subst (λ (y : Code). Typed p c empty y empty b) (sym (structured_unstated x.code nested.0)) e in
      typed_code (record { atomicity = b; typed = here }) (still_typed_codes xs nested.1 d)

-- a sound file without statements, which the version of the earlier rule did not know, that the earlier rule accepts
pub still_accepted : (s : List ℕ) (p : Program) → sound s ≡ Ok p → without_statements s ≡ s → {before : List ℕ} → judge_before p ≡ Ok before
    → (report : List ℕ) × (accept s ≡ Ok (record { program = p; report = report }))
unfolding judge_before unstated_program
still_accepted s p e silent before =
    let bare : unstated_program p ≡ p = fine_inj _ p (sym (sound_unstated s p e) ∙ (ap sound silent ∙ e)) in
    let nested = sound_codes_nested s e in
    let typed = still_typed_codes p p.codes nested (judged_codes_typed (with_writer p) 0 p.codes nested before) in
    (accepted_exactly s p e).1 (subst (λ (q : Program). TypedCodes p 0 q.codes) bare typed)
