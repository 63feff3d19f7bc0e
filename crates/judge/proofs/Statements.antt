-- "In an accepted file every statement is true" (`specs/Statements.antt`). Assumes nothing.
--     Agree, agree_append, agree_length, agree_at
--                           instructions and their report bytes, one by one
--     plain_states_nothing, states_true
--                           a plain instruction states nothing; what a block may state is true
--     typed_agrees          of code that the rules derive
--     code_agrees, codes_true
--                           of a code, of the codes from one on
--     statements_true       of an accepted file
use Rattle.std.proofs.Common.{ℕ, zero, suc, ◌+◌, ◌<◌, ◌≡◌, refl, sym, ap, ◌∙◌, subst, inl, inr, List, [], ◌∷◌, ◌++◌, append_assoc, length, get_or, drop, arith, None, Ok}
use lib.Seq.{drop-append-add}
use Rattle.atomicity.specs.Atomicity.{report_byte}
use Rattle.atomicity.specs.declared.Atomicity.{Atomicity}
use Rattle.program.proofs.Structure.{nested_flat}
use Rattle.program.proofs.Differ.{differ}
use Rattle.program.specs.Code.{Code, size}
use Rattle.program.specs.Layout.{Program, CodeSection}
use Rattle.program.specs.Nesting.{first_broken}
use Rattle.program.specs.View.{View, own, shares, nests, states, Plain, view_of, form_in, form_of, statement_in, statement_of}
use Rattle.program.specs.Internal.WellFormed.{flat}
use Rattle.program.specs.declared.instruction.Instruction.{Instruction}
use Rattle.program.specs.declared.instruction.Instruction.TheVariants.{Else, Atomic, End}
use Rattle.judge.specs.Acceptance.{Accepted, accept}
use Rattle.judge.specs.Demand.{Demand2}
use Rattle.judge.specs.Rules.{States, states_nothing, states_it, Typed, typed_done, typed_plain, typed_choice, typed_loop, typed_block, report, TypedCode, code_report, TypedCodes, typed_none, typed_code, codes_report}
use Rattle.judge.specs.Statements.{IsTrue, AllTrue}
use Rattle.judge.specs.Internal.Nested.{Nested}
use Rattle.judge.specs.declared.lock_set.LockSet.{LockSet}
use Rattle.judge.proofs.RulesFile.{demand2, sound_codes_nested}

-- ---- instructions and bytes

abbrev Agree : List Instruction → List ℕ → Type 0
Agree [] [] = Unit
Agree [] (b ∷ bs) = ⊥
Agree (i ∷ is) [] = ⊥
Agree (i ∷ is) (b ∷ bs) = IsTrue i b × Agree is bs

agree_append : (is : List Instruction) (bs : List ℕ) (js : List Instruction) (cs : List ℕ) → Agree is bs → Agree js cs → Agree (is ++ js) (bs ++ cs)
agree_append [] [] js cs h k = k
agree_append [] (b ∷ bs) js cs h k = absurd h
agree_append (i ∷ is) [] js cs h k = absurd h
agree_append (i ∷ is) (b ∷ bs) js cs h k = (h.0, agree_append is bs js cs h.1 k)

agree_length : (is : List Instruction) (bs : List ℕ) → Agree is bs → length bs ≡ length is
agree_length [] [] h = refl
agree_length [] (b ∷ bs) h = absurd h
agree_length (i ∷ is) [] h = absurd h
agree_length (i ∷ is) (b ∷ bs) h = ap suc (agree_length is bs h.1)

agree_at : (is : List Instruction) (bs rest : List ℕ) → Agree is bs → (q : ℕ) → q < length is → IsTrue (get_or is q End) (get_or (bs ++ rest) q 0)
agree_at [] bs rest h q l = absurd (let none : ⊥ = omega arith in none)
agree_at (i ∷ is) [] rest h q l = absurd h
agree_at (i ∷ is) (b ∷ bs) rest h zero l = h.0
agree_at (i ∷ is) (b ∷ bs) rest h (suc q) l = agree_at is bs rest h.1 q (omega arith)

-- ---- the rules

plain_states_nothing : (i : Instruction) → form_of i ≡ Plain → statement_of i ≡ 0
unfolding form_of statement_of
plain_states_nothing i = cases (view_of i)
  where
    cases : (v : View) → form_in v ≡ Plain → statement_in v ≡ 0
    cases own f = refl
    cases (shares x) f = refl
    cases (nests x) f = refl
    cases (states a n) f = differ cc

states_true : {n : ℕ} {x : Atomicity} (d : ℕ) → States n x → IsTrue (Atomic n d) (report_byte x)
unfolding statement_of
states_true d states_nothing = inl refl
states_true d states_it = inr refl

module _ {p : Program} {c : ℕ} where
  typed_agrees : {s s' : LockSet} {x : Code} {a : Atomicity} (D : Typed p c s x s' a) → Agree (flat x) (report D)
  unfolding flat report statement_of
  typed_agrees typed_done = tt
  typed_agrees (typed_plain {i = i} f l rest) = (inl (plain_states_nothing i f), typed_agrees rest)
  typed_agrees (typed_choice {a = a} {b = b} {next = next} first second rest) =
      let more = agree_append (flat b) (report second) (End ∷ flat next) (0 ∷ report rest) (typed_agrees second) (inl refl, typed_agrees rest) in (
        inl refl,
        subst (Agree (flat a ++ (Else (size b + 1) ∷ flat b ++ (End ∷ flat next)))) (sym (append_assoc (report first) (0 ∷ report second) (0 ∷ report rest)))
            (agree_append (flat a) (report first) (Else (size b + 1) ∷ flat b ++ (End ∷ flat next)) (0 ∷ report second ++ (0 ∷ report rest)) (typed_agrees first) (inl refl, more)),
      )
  typed_agrees (typed_loop {a = a} body rest) = (inl refl, agree_append (flat a) (report body) _ _ (typed_agrees body) (inl refl, typed_agrees rest))
  typed_agrees (typed_block {a = a} body proper stated rest) =
      (states_true (size a + 1) stated, agree_append (flat a) (report body) _ _ (typed_agrees body) (inl refl, typed_agrees rest))

-- ---- codes

module _ {p : Program} where
  code_agrees : {c : ℕ} (code : List Instruction) → first_broken 0 code [] ≡ None → (D : TypedCode p c code) → Agree code (report D.typed)
  code_agrees code nested D = subst (λ (is : List Instruction). Agree is (report D.typed)) (nested_flat code nested).flat_is (typed_agrees D.typed)

  codes_true : {c : ℕ} (sections : List CodeSection) → Nested sections → (D : TypedCodes p c sections) → AllTrue sections (codes_report D)
  unfolding AllTrue Nested codes_report code_report
  codes_true [] nested typed_none = tt
  codes_true (section ∷ sections) nested (typed_code D rest) =
      let bytes = report D.typed in
      let whole = report_byte D.atomicity in
      let agrees = code_agrees section.code nested.0 D in
      let apart : bytes ++ whole ∷ [] ++ codes_report rest ≡ bytes ++ (whole ∷ codes_report rest) = append_assoc bytes (whole ∷ []) (codes_report rest) in
      let behind : drop (length section.code + 1) (bytes ++ (whole ∷ codes_report rest)) ≡ codes_report rest =
      ap (λ (n : ℕ). drop (n + 1) (bytes ++ (whole ∷ codes_report rest))) (sym (agree_length section.code bytes agrees)) ∙ drop-append-add bytes (whole ∷ codes_report rest) 1 in (
        (λ q l. rw apart (agree_at section.code bytes (whole ∷ codes_report rest) agrees q l)),
        rw (apart, behind) (codes_true sections nested.1 rest),
      )

-- ---- a file

pub statements_true : (s : List ℕ) (a : Accepted) → accept s ≡ Ok a → AllTrue a.program.codes a.report
unfolding Demand2
statements_true s a e =
    let (is_sound, derived) = (demand2 s a).0 e in
    subst (AllTrue a.program.codes) derived.1 (codes_true a.program.codes (sound_codes_nested s is_sound) derived.0)
