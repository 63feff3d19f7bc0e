-- The labels of typed code say where the blocks are, as the machine does (`covered_at`). In order: places that a list of instructions
-- covers; rows of a construct from the rows of its parts; typed code. Assumes nothing.
use Rattle.std.proofs.Common.{ℕ, zero, suc, ◌+◌, ◌-◌, ◌≤◌, ◌<◌, add-zero, zero-add, arith, lt-ltb, le-ltb, le-leb, ◌≡◌, refl, sym, ap, ◌∙◌, subst, Bool, true, false, ◌&&◌, ◌||◌, List, [], ◌∷◌, ◌++◌, length, get_or, length-append, get_or-append-add, leb}
use borrow.Author.Tests.{lt-leb}
use Rattle.std.proofs.Math.Decide.{dec_lt}
use Rattle.std.proofs.Math.Logic.{dite}
use Rattle.std.proofs.Math.Bool.{and-false, and-true, or-false, or-true, or_assoc}
use Rattle.std.proofs.Math.ListN.{get_or-append}
use Rattle.std.proofs.Math.Seq.{append_snoc}
use Rattle.atomicity.specs.Atomicity.{join, closure}
use Rattle.atomicity.specs.declared.Atomicity.{Atomicity}
use Rattle.judge.specs.Discipline.{atomicity_of}
use Rattle.judge.specs.Rules.{Typed, typed_done, typed_plain, typed_choice, typed_loop, typed_block}
use Rattle.judge.specs.declared.lock_set.LockSet.{LockSet}
use Rattle.machine.specs.Block.{covers, covered_from}
use Rattle.program.proofs.StructureFlat.{length-flat}
use Rattle.program.specs.Code.{Code, size}
use Rattle.program.specs.Internal.WellFormed.{flat}
use Rattle.program.specs.View.{form_of, Form, Plain}
use Rattle.program.specs.Layout.{Program}
use Rattle.program.specs.View as form
use Rattle.program.specs.declared.instruction.Instruction.{Instruction}
use Rattle.program.specs.declared.instruction.Instruction.TheVariants.{Atomic, End}
use Rattle.soundness.specs.Internal.Coverage.{Says}
use Rattle.soundness.specs.Internal.Flow.{Label, label, labelled}
use Rattle.soundness.specs.Internal.Labelled.{Row, row, rows, label_at}
use Rattle.soundness.specs.Internal.Prefix.{Prefix, behind, entered, is_inner}
use Rattle.soundness.proofs.Labelled.{instructions_of, rows_flat, length-rows, label_past}
use Rattle.soundness.proofs.Prefix.{inner_behind, inner_entered}

-- ---- covered by some instruction of a list

-- no instruction covers its own place or one before it
covers_before : (w : ℕ) (f : Form) (q : ℕ) → q ≤ w → covers w f q ≡ false
unfolding covers
covers_before w Plain q h = refl
covers_before w (form.If a n) q h = refl
covers_before w (form.Else n) q h = refl
covers_before w (form.While a n) q h = refl
covers_before w (form.Again n) q h = refl
covers_before w (form.Atomic n) q h = ap (λ (b : Bool). b && leb q (w + n)) (le-ltb w q h)
covers_before w form.End q h = refl

covered_before : (is : List Instruction) (w q : ℕ) → q ≤ w → covered_from w is q ≡ false
unfolding covered_from
covered_before [] w q h = refl
covered_before (i ∷ is) w q h = rw (covers_before w (form_of i) q h, covered_before is (suc w) q (omega arith))

-- covered by the first rows or by the second
covered_append : {L : Type 0} (l k : List (Row L)) (w q : ℕ)
    → covered_from w (instructions_of (l ++ k)) q ≡ (covered_from w (instructions_of l) q || covered_from (w + length l) (instructions_of k) q)
unfolding covered_from
covered_append [] k w q = ap (λ (v : ℕ). covered_from v (instructions_of k) q) (sym (add-zero w))
covered_append (r ∷ l) k w q =
    let place : suc w + length l ≡ w + suc (length l) = omega arith in
    rw (covered_append l k (suc w) q, place)
    (sym (or_assoc (covers w (form_of r.instruction) q) (covered_from (suc w) (instructions_of l) q) (covered_from (w + suc (length l)) (instructions_of k) q)))

-- ---- rows

module _ {L : Type 0} {f : L → Bool} where
  says_nil : (b : Bool) → Says f b []
  unfolding covered_from
  says_nil b = record { past = λ w q h. refl; agrees = λ w d q h. absurd (omega arith) }

  -- an instruction that covers all of what follows it, or nothing
  says_cons : {b : Bool} (o : Bool) {i : Instruction} {x : L} {l : List (Row L)}
      → ((w q : ℕ) → w < q → covers w (form_of i) q ≡ (o && leb q (w + length l))) → f x ≡ b → Says f (b || o) l → Says f b (row i x ∷ l)
  unfolding covered_from
  says_cons {b} o {i} {x} {l} c e s = record {
    past = λ w q h. rw (c w q (omega arith), lt-leb q (w + length l) (omega arith), and-false o) (s.past (suc w) q (omega arith));
    agrees = at;
  }
    where
      at : (w : ℕ) (d : Row L) (q : ℕ) → q < length (row i x ∷ l)
          → (b || (covers w (form_of i) (w + q) || covered_from (suc w) (instructions_of l) (w + q))) ≡ f (get_or (row i x ∷ l) q d).label
      at w d zero h =
          rw (covers_before w (form_of i) (w + 0) (omega arith), covered_before (instructions_of l) (suc w) (w + 0) (omega arith)) (or-false b ∙ sym e)
      at w d (suc q) h =
          let place : w + suc q ≡ suc w + q = omega arith in
          rw (c w (w + suc q) (omega arith), le-leb (w + suc q) (w + length l) (omega arith), and-true o, ← (or_assoc b o (covered_from (suc w) (instructions_of l) (w + suc q))), place)
          (s.agrees (suc w) d q (omega arith))

  -- one that covers nothing
  says_plain : {b : Bool} {i : Instruction} {x : L} {l : List (Row L)} → ((w q : ℕ) → covers w (form_of i) q ≡ false) → f x ≡ b → Says f b l
      → Says f b (row i x ∷ l)
  says_plain {b} {l} c e s = says_cons false (λ w q h. c w q) e (subst (λ (b : Bool). Says f b l) (sym (or-false b)) s)

  -- an ATOMIC, and what it covers
  says_atomic : {b : Bool} {x : L} {l : List (Row L)} (a n : ℕ) → length l ≡ n → f x ≡ b → Says f true l → Says f b (row (Atomic a n) x ∷ l)
  unfolding covers form_of
  says_atomic {b} {l} a n len e s =
      says_cons true (λ w q h. rw (lt-ltb w q h, len)) e (subst (λ (b : Bool). Says f b l) (sym (or-true b)) s)

  says_append : {b : Bool} {l k : List (Row L)} → Says f b l → Says f b k → Says f b (l ++ k)
  says_append {b} {l} {k} s r = record {
    past = λ w q h.
        let len = length-append l k in
        covered_append l k w q ∙ rw (s.past w q (omega arith), r.past (w + length l) q (omega arith));
    agrees = λ w d q h. ap (λ (c : Bool). b || c) (covered_append l k w (w + q)) ∙ dite (dec_lt q (length l))
        (λ (m : q < length l). rw (covered_before (instructions_of k) (w + length l) (w + q) (omega arith), or-false (covered_from w (instructions_of l) (w + q)), get_or-append l k d q m) (s.agrees w d q m))
        (λ (m : ¬ (q < length l)).
        let n = q - length l in
        let len = length-append l k in
        let here : q ≡ length l + n = omega arith in
        let place : w + q ≡ w + length l + n = omega arith in
        rw (s.past w (w + q) (omega arith), place) (r.agrees (w + length l) d n (omega arith))
        ∙ sym (ap (λ (j : ℕ). f (get_or (l ++ k) j d).label) here ∙ ap (λ (j : Row L). f j.label) (get_or-append-add l k n d)));
  }

-- ---- typed code

abbrev inside_block : Label → Bool
inside_block x = is_inner x.prefix

module _ {p : Program} {t : ℕ} where
  coverage : {s s' : LockSet} {c : Code} {a : Atomicity} (d : Typed p t s c s' a) (m : Prefix) {b : Bool} → is_inner m ≡ b
      → Says inside_block b (rows (labelled d m))
  unfolding labelled rows covers form_of
  coverage typed_done m {b} e = says_nil b
  coverage (typed_plain {i} {s} f l d) m e =
      says_plain (λ w q. ap (λ (o : Form). covers w o q) f) e (coverage d _ (inner_behind m (atomicity_of p t s i) ∙ e))
  coverage (typed_choice {x} {y} d₁ d₂ d) m e =
      let n = inner_behind m (join x y) ∙ e in
      says_plain (λ w q. refl) e (says_append (coverage d₁ m e)
      (says_plain (λ w q. refl) (inner_behind m x ∙ e) (says_append (coverage d₂ m e)
      (says_plain (λ w q. refl) n (coverage d _ n)))))
  coverage (typed_loop {x} d₁ d) m e =
      let n = inner_behind m (closure x) ∙ e in
      says_plain (λ w q. refl) n (says_append (coverage d₁ _ n)
      (says_plain (λ w q. refl) (inner_behind (behind m (closure x)) x ∙ n) (coverage d _ n)))
  coverage {s} (typed_block {n} {a} {s'} {x} d₁ top stated d) m {b} e =
      let body = labelled d₁ (entered m) in
      let end = row End (label s' (behind (entered m) x)) in
      let inside : Says inside_block true (rows body ++ (end ∷ [])) =
      says_append (coverage d₁ (entered m) (inner_entered m))
      (says_plain {i = End} (λ w q. refl) (inner_behind (entered m) x ∙ inner_entered m) (says_nil true)) in
      let len = length-append (rows body) (end ∷ []) in
      subst (λ (l : List (Row Label)). Says inside_block b (row (Atomic n (size a + 1)) (label s m) ∷ l)) (append_snoc (rows body) end (rows (labelled d (behind m x))))
      (says_append (says_atomic n (size a + 1) (omega (arith, length-rows body)) e inside) (coverage d _ (inner_behind m x ∙ e)))

  -- standing inside: the block that the code is begun in, or one of its own
  pub covered_at : {s s' : LockSet} {c : Code} {a : Atomicity} (d : Typed p t s c s' a) (m : Prefix) (next : Label) → is_inner next.prefix ≡ is_inner m
      → (q : ℕ) → (is_inner m || covered_from 0 (flat c) q) ≡ is_inner (label_at (labelled d m) next q).prefix
  covered_at {c} d m next e q =
      let u = labelled d m in
      let says = coverage d m refl in
      subst (λ (is : List Instruction). (is_inner m || covered_from 0 is q) ≡ is_inner (label_at u next q).prefix) (rows_flat u)
      (dite (dec_lt q (length (rows u)))
      (λ (h : q < length (rows u)).
      subst (λ (j : ℕ). (is_inner m || covered_from 0 (instructions_of (rows u)) j) ≡ is_inner (label_at u next q).prefix) (zero-add q)
      (says.agrees 0 (row End next) q h))
      (λ (h : ¬ (q < length (rows u))).
      rw (says.past 0 q (omega arith), label_past u next q (omega (arith, length-rows u, length-flat c))) (or-false (is_inner m) ∙ sym e)))
