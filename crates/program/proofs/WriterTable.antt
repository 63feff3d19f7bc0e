-- What the table of writers says: a variable's byte has a bit besides code c's exactly if another code writes the variable. Assumes nothing.
--     besides_or, besides_bit   a bit besides those of another number, and of a code's
--     table_says                the table of all codes
use Prim.Native.Nat.{ℕ, suc, ◌+◌, ◌*◌, ◌/◌, ◌%◌, ◌^◌, ◌<◌, max}
use mathlib.Core.Path.{◌≡◌, refl, sym, ap, ap₂, ◌∙◌}
use mathlib.Core.Logic.{◌≢◌, Ne-symm}
use mathlib.Core.Bool.{Bool, true, false, not, ◌&&◌, ◌||◌, and-true, and-false, or-false}
use mathlib.Core.List.{List, [], ◌∷◌}
use native.Mathlib.Decide.{ℕ_discrete}
use native.Mathlib.Nat.{one-mul}
use native.Mathlib.Omega.{arith}
use borrow.Author.Tests.{eqb-true, eqb-false, eq-eqb, ne_eqb, ltb-true, ltb-false}
use lib.Arith.{bin_ind}
use lib.Bits.{bit_or, or_step, or_comm, or_self, or_shr, or_shifted, or_shifted_r}
use lib.Dec.{eqb, ltb}
use lib.ListN.{length, get_or, replicate, length-replicate, get_or-replicate}
use lib.Pow.{pow-lt, pow_pos}
use lib.Seq.{get_or-set_same, get_or-set_other}
use Rattle.program.specs.Layout.{Program, CodeSection}
use Rattle.program.specs.Limits.{variable_limit}
use Rattle.program.specs.View.{Access, none, reads, writes, takes, gives, access_of}
use Rattle.program.specs.Writers.{is_write_of, has_write, written_from, written_by_other}
use Rattle.program.specs.Internal.Marks.{besides, marked, marked_all, marked_codes, writer_table}
use Rattle.program.specs.declared.instruction.Instruction.{Instruction}
use Rattle.program.proofs.MarkedParts.{length-one, length_marked}

-- ---- bits

or_half : (a b : ℕ) → bit_or a b / 2 ≡ bit_or (a / 2) (b / 2)
or_half a b = or_shr a b 1

or_last : (a b : ℕ) → bit_or a b % 2 ≡ max (a % 2) (b % 2)
or_last a b = omega (arith, or_step a b)

or_assoc : (a b c : ℕ) → bit_or (bit_or a b) c ≡ bit_or a (bit_or b c)
or_assoc =
    bin_ind (λ (n : ℕ). (b c : ℕ) → bit_or (bit_or n b) c ≡ bit_or n (bit_or b c)) (λ b c. refl)
    (λ n ih b c.
    let m : max (max (n % 2) (b % 2)) (c % 2) ≡ max (n % 2) (max (b % 2) (c % 2)) = omega arith in
    or_step (bit_or n b) c
    ∙ ap₂ (λ (h l : ℕ). h * 2 + l)
    (ap (λ (h : ℕ). bit_or h (c / 2)) (or_half n b) ∙ ih (b / 2) (c / 2) ∙ ap (bit_or (n / 2)) (sym (or_half b c)))
    (ap (λ (l : ℕ). max l (c % 2)) (or_last n b) ∙ m ∙ ap (max (n % 2)) (sym (or_last b c)))
    ∙ sym (or_step n (bit_or b c)))

-- where both numbers have none, their bits together have none
none_both : (w x z : ℕ) → bit_or x z ≡ z → bit_or w z ≡ z → bit_or (bit_or w x) z ≡ z
none_both w x z p q = or_assoc w x z ∙ ap (bit_or w) p ∙ q

none_second : (w x z : ℕ) → bit_or (bit_or w x) z ≡ z → bit_or x z ≡ z
none_second w x z e =
    ap (bit_or x) (sym e)
    ∙ sym (or_assoc x (bit_or w x) z)
    ∙ ap (λ (y : ℕ). bit_or y z) (or_comm x (bit_or w x) ∙ or_assoc w x x ∙ ap (bit_or w) (or_self x))
    ∙ e

none_first : (w x z : ℕ) → bit_or (bit_or w x) z ≡ z → bit_or w z ≡ z
none_first w x z e = none_second x w z (ap (λ (y : ℕ). bit_or y z) (or_comm x w) ∙ e)

besides_or : (w x z : ℕ) → besides z (bit_or w x) ≡ (besides z x || besides z w)
besides_or w x z = cases (eqb (bit_or x z) z) (eqb (bit_or w z) z) refl refl
  where
    cases : (p q : Bool) → eqb (bit_or x z) z ≡ p → eqb (bit_or w z) z ≡ q → not (eqb (bit_or (bit_or w x) z) z) ≡ (not p || not q)
    cases true true e f =
        ap not (eq-eqb (bit_or (bit_or w x) z) z (none_both w x z (eqb-true (bit_or x z) z e) (eqb-true (bit_or w z) z f)))
    cases true false e f = ap not (ne_eqb (bit_or (bit_or w x) z) z (λ g. eqb-false (bit_or w z) z f (none_first w x z g)))
    cases false q e f = ap not (ne_eqb (bit_or (bit_or w x) z) z (λ g. eqb-false (bit_or x z) z e (none_second w x z g)))

-- a lower or a higher power of 2 adds a bit
lower_bit : (n c : ℕ) → n < c → bit_or (2 ^ n) (2 ^ c) ≢ 2 ^ c
lower_bit n c less e =
    let sum : bit_or (2 ^ n) (2 ^ c) ≡ 2 ^ c + 2 ^ n = ap (bit_or (2 ^ n)) (sym (one-mul (2 ^ c))) ∙ or_shifted_r 1 c (2 ^ n) (pow-lt less) ∙ ap (λ (y : ℕ). y + 2 ^ n) (one-mul (2 ^ c)) in
    omega (arith, pow_pos n, sum, e)

higher_bit : (n c : ℕ) → c < n → bit_or (2 ^ n) (2 ^ c) ≢ 2 ^ c
higher_bit n c more e =
    let sum : bit_or (2 ^ n) (2 ^ c) ≡ 2 ^ n + 2 ^ c = ap (λ (y : ℕ). bit_or y (2 ^ c)) (sym (one-mul (2 ^ n))) ∙ or_shifted 1 n (2 ^ c) (pow-lt more) ∙ ap (λ (y : ℕ). y + 2 ^ c) (one-mul (2 ^ n)) in
    omega (arith, pow_pos n, sum, e)

besides_bit : (n c : ℕ) → besides (2 ^ c) (2 ^ n) ≡ not (eqb n c)
besides_bit n c = elim (ℕ_discrete n c) [
  | yes same ↦ ap not (eq-eqb (bit_or (2 ^ n) (2 ^ c)) (2 ^ c) (rw same (or_self (2 ^ c))) ∙ sym (eq-eqb n c same))
  | no differs ↦ ap not (ne_eqb (bit_or (2 ^ n) (2 ^ c)) (2 ^ c) (cases (ltb n c) refl differs) ∙ sym (ne_eqb n c differs))
]
  where
    cases : (less : Bool) → ltb n c ≡ less → n ≢ c → bit_or (2 ^ n) (2 ^ c) ≢ 2 ^ c
    cases true h differs = lower_bit n c (ltb-true n c h)
    cases false h differs = let k = ltb-false n c h in higher_bit n c (omega (arith, differs))

-- ---- the table

-- the same tests in another order
or_rotate : (h w b : Bool) → (h || (w || b)) ≡ ((w || h) || b)
or_rotate true true b = refl
or_rotate true false b = refl
or_rotate false true b = refl
or_rotate false false b = refl

and_rotate : (m h w b : Bool) → (m && h || (m && w || b)) ≡ (m && (w || h) || b)
and_rotate true h w b = or_rotate h w b
and_rotate false h w b = refl

module _ (c v : ℕ) where
  -- the byte of variable v has a bit besides code c's
  abbrev beside : List ℕ → Bool
  beside table = besides (2 ^ c) (get_or table v 0)

  -- one instruction of code n
  marked_beside : (n : ℕ) (x : Access) (t : List ℕ) → v < length t → beside (marked (2 ^ n) x t) ≡ (not (eqb n c) && is_write_of v x || beside t)
  marked_beside n none t h = rw (and-false (not (eqb n c)))
  marked_beside n (reads w) t h = rw (and-false (not (eqb n c)))
  marked_beside n (takes k) t h = rw (and-false (not (eqb n c)))
  marked_beside n (gives k) t h = rw (and-false (not (eqb n c)))
  marked_beside n (writes w a) t h = elim (ℕ_discrete w v) [
    | yes same ↦ rw (same, get_or-set_same t v (bit_or (get_or t v 0) (2 ^ n)) 0 h, eq-eqb v v refl, and-true (not (eqb n c))) (by_bit (get_or t v 0))
    | no other ↦ rw (get_or-set_other t w v (bit_or (get_or t w 0) (2 ^ n)) 0 (Ne-symm other), ne_eqb w v other, and-false (not (eqb n c)))
  ]
    where
      by_bit : (x : ℕ) → besides (2 ^ c) (bit_or x (2 ^ n)) ≡ (not (eqb n c) || besides (2 ^ c) x)
      by_bit x = besides_or x (2 ^ n) (2 ^ c) ∙ ap (λ (b : Bool). b || besides (2 ^ c) x) (besides_bit n c)

  -- a whole code
  all_beside : (n : ℕ) (is : List Instruction) (t : List ℕ) → v < length t → beside (marked_all (2 ^ n) is t) ≡ (not (eqb n c) && has_write v is || beside t)
  unfolding marked_all has_write
  all_beside n [] t h = rw (and-false (not (eqb n c)))
  all_beside n (i ∷ is) t h =
      let x = access_of i in
      all_beside n is (marked (2 ^ n) x t) (rw (length-one (2 ^ n) x t) h)
      ∙ ap (λ (b : Bool). not (eqb n c) && has_write v is || b) (marked_beside n x t h)
      ∙ and_rotate (not (eqb n c)) (has_write v is) (is_write_of v x) (beside t)

  -- all codes
  codes_beside : (n : ℕ) (xs : List CodeSection) (t : List ℕ) → v < length t → beside (marked_codes n xs t) ≡ (written_from c v n xs || beside t)
  unfolding marked_codes written_from
  codes_beside n [] t h = refl
  codes_beside n (x ∷ xs) t h =
      codes_beside (suc n) xs (marked_all (2 ^ n) x.code t) (rw (length_marked (2 ^ n) x.code t) h)
      ∙ ap (λ (b : Bool). written_from c v (suc n) xs || b) (all_beside n x.code t h)
      ∙ or_rotate (written_from c v (suc n) xs) (not (eqb n c) && has_write v x.code) (beside t)

  -- no bit is set at first
  pub table_says : (p : Program) → v < variable_limit → besides (2 ^ c) (get_or (writer_table p) v 0) ≡ written_by_other p c v
  unfolding written_by_other
  table_says p h =
      codes_beside 0 p.codes (replicate variable_limit 0) (let l : length (replicate {A = ℕ} variable_limit 0) ≡ variable_limit = length-replicate {A = ℕ} variable_limit 0 in rw l h)
      ∙ rw (get_or-replicate {A = ℕ} variable_limit v 0 0 h, eq-eqb (2 ^ c) (2 ^ c) refl, or-false (written_from c v 0 p.codes))
