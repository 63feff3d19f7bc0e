-- The table of op codes by row number, and what a decoded instruction's fields satisfy. Assumes nothing.
--     position_found       an op code whose row has a number is looked up as that row
--     position_none        one without a row is invalid
--     row_said             the instruction of valid bytes is its row's, whose fields are right
--     row_below            there are no more row numbers than rows
--     fits_valid           bytes are valid exactly if they lie below the limits of their row
--     all_right            three tests that hold together hold
--     registers_in, right_registers
--                          the registers of a row's fields, which there are if the fields are right
--     by_row               fields b and c say the distance alone
--     plain_is             a form that the test finds plain is
--     row_instruction      valid bytes are the instruction of their op code's row
--     row_registers        ... which names registers that there are
--     row_form_lem         the form of an opener or a closer is its row's
--     row_plain            any other's is plain
--     nests, nesting_rows  openers and closers are rows 10 to 15
--     instruction_access   locks and variables below their counts, at any offset, valid or not
--     access_below         ... of four bytes
--     each_row_lem         what a computed test says of all rows
--     or_right             the second of two tests holds where the first does not
--     access_wider         what lies below two counts lies below larger ones
--     AllRows, decode_holds
--                          what holds of each row's instruction holds of what is decoded
--     rows_from_lem, rows_at
--                          the row of each byte, by op code
--     rows_numbered        ... for a table of rows of the enum
--     rows_in_order        the row of each number, for a table of them
--     numbered_below       a row of the enum has the number that it was found by
use Prim.Native.Nat.{ℕ, zero, suc, ◌+◌, ◌-◌, ◌*◌, ◌<◌, ◌≤◌}
use mathlib.Core.Path.{◌≡◌, refl, sym, ap, ◌∙◌, subst}
use mathlib.Core.Logic.{◌≢◌}
use mathlib.Core.Bool.{Bool, true, false, ◌&&◌, ◌||◌, not, and-eq-true_iff}
use mathlib.Core.List.{List, [], ◌∷◌, map}
use native.Mathlib.Nat.{lt_of_lt_of_le, zero-add}
use native.Mathlib.Decide.{ℕ_discrete}
use native.Mathlib.Omega.{arith}
use lib.Dec.{ltb, leb, eqb}
use lib.ListN.{length, get_or, get_or-map}
use borrow.Author.Tests.{ltb-true, leb-true, lt-ltb, le-ltb, ne_eqb}
use Rattle.std.specs.List.{range_with_len}
use Rattle.std.proofs.lemmas.Bool.{not-false, not-true}
use Rattle.std.proofs.lemmas.List.FromFn.{get_or-range_with_len}
use Rattle.program.specs.View.{Access, none, reads, writes, takes, gives, access_of, form_of, Form}
use Rattle.program.specs.Choice.{choose}
use Rattle.program.specs.Field.{byte_at}
use Rattle.program.specs.Instruction.{Decoded, Valid, Invalid, FieldKind, register, variable, lock, zero as zero_field, part, statement, is_right, is_right_row, TableRow, table, look_up, decode, decode_at, decoded_instruction, is_valid}
use Rattle.program.specs.Limits.{register_count}
use Rattle.program.specs.Internal.Rows.{position, row_of, rows_from, row_table, number_of, no_row, row_in, instruction_in, is_plain, at_distance, row_form, is_nesting, row_count, limit_of, row_limits, no_limits, limits_of, fits}
use Rattle.program.specs.Internal.Seen.{AreRegisters, RegistersGood, registers_of, seen}
use Rattle.program.specs.Internal.Sound.{AccessBelow}
use Rattle.program.specs.View as form
use Rattle.program.specs.declared.instruction.Instruction.{Instruction}
use Rattle.program.specs.declared.instruction.Instruction.TheVariants.{End}
use Rattle.program.specs.declared.instruction.Row.{Row}
use Rattle.program.specs.declared.instruction.Row.TheVariants as row
use Rattle.program.proofs.Differ.{differ}
use Rattle.program.proofs.Lists.{get_d_any}

-- ---- rows by number

-- a row's number is 0, or from the first row's on; there are no more than rows
position_from : (op n : ℕ) (rows : List TableRow) → position op n rows ≢ 0 → n ≤ position op n rows
position_from op n [] h = absurd (h refl)
position_from op n (r ∷ rs) h = cases (eqb op r.op) h (position_from op (suc n) rs)
  where
    cases : (same : Bool) → choose same n (position op (suc n) rs) ≢ 0 → (position op (suc n) rs ≢ 0 → suc n ≤ position op (suc n) rs)
        → n ≤ choose same n (position op (suc n) rs)
    cases true k rest = omega arith
    cases false k rest = let m = rest k in omega arith

position_below : (op n : ℕ) (rows : List TableRow) → 0 < n → position op n rows < n + length rows
position_below op n [] some = omega arith
position_below op n (r ∷ rs) some = cases (eqb op r.op) (position_below op (suc n) rs (omega arith))
  where
    cases : (same : Bool) → position op (suc n) rs < suc n + length rs → choose same n (position op (suc n) rs) < n + suc (length rs)
    cases true rest = omega arith
    cases false rest = omega arith

module _ (locks variables op a b c : ℕ) where
  -- what a row says of the fields
  abbrev row_decoded : TableRow → Decoded
  row_decoded r = choose (is_right_row locks variables a b c r) (Valid r.instruction) Invalid

  abbrev looked : List TableRow → Decoded
  looked rows = look_up locks variables op a b c rows

  position_found : (n m : ℕ) (rows : List TableRow) → 0 < n → position op n rows ≡ n + m → looked rows ≡ row_decoded (get_or rows m no_row)
  position_found n m [] some e = absurd (let z : ⊥ = omega arith in z)
  position_found n m (r ∷ rs) some e = cases (eqb op r.op) m e (λ k. position_found (suc n) k rs (omega arith))
    where
      cases : (same : Bool) (m : ℕ) → choose same n (position op (suc n) rs) ≡ n + m
          → ((k : ℕ) → position op (suc n) rs ≡ suc n + k → looked rs ≡ row_decoded (get_or rs k no_row))
          → choose same (row_decoded r) (looked rs) ≡ row_decoded (get_or (r ∷ rs) m no_row)
      cases true zero k rest = refl
      cases true (suc m) k rest = absurd (let z : ⊥ = omega arith in z)
      cases false zero k rest =
          let h = position_from op (suc n) rs (λ q. absurd (let z : ⊥ = omega arith in z)) in
          absurd (let z : ⊥ = omega arith in z)
      cases false (suc m) k rest = rest m (omega arith)

  position_none : (n : ℕ) (rows : List TableRow) → 0 < n → position op n rows ≡ 0 → looked rows ≡ Invalid
  position_none n [] some e = refl
  position_none n (r ∷ rs) some e = cases (eqb op r.op) e (position_none (suc n) rs (omega arith))
    where
      cases : (same : Bool) → choose same n (position op (suc n) rs) ≡ 0 → (position op (suc n) rs ≡ 0 → looked rs ≡ Invalid)
          → choose same (row_decoded r) (looked rs) ≡ Invalid
      cases true k rest = absurd (let z : ⊥ = omega arith in z)
      cases false k rest = rest k

-- a row is valid if its fields are right, and then it is what is decoded
row_valid : (fields : Bool) (i : Instruction) → is_valid (choose fields (Valid i) Invalid) ≡ true
    → (i ≡ decoded_instruction (choose fields (Valid i) Invalid)) × (fields ≡ true)
row_valid true i e = (refl, refl)
row_valid false i e = differ cc

valid_fields : (fields : Bool) (i : Instruction) → is_valid (choose fields (Valid i) Invalid) ≡ fields
valid_fields true i = refl
valid_fields false i = refl

module _ (locks variables op a b c : ℕ) where
  -- the instruction of valid bytes is its row's, whose fields are right
  pub row_said : (m : ℕ) → row_of op ≡ suc m → is_valid (decode locks variables op a b c) ≡ true
      → ((get_or (table a b c) m no_row).instruction ≡ decoded_instruction (decode locks variables op a b c))
      × (is_right_row locks variables a b c (get_or (table a b c) m no_row) ≡ true)
  unfolding decode row_of
  row_said m e valid =
      let r = get_or (table a b c) m no_row in
      let found = position_found locks variables op a b c 1 m (table a b c) (omega arith) (omega (arith, e)) in
      rw found (row_valid (is_right_row locks variables a b c r) r.instruction (rw found at valid))

  -- no row: not valid
  pub row_some : is_valid (decode locks variables op a b c) ≡ true → row_of op ≢ 0
  unfolding decode row_of
  row_some valid e = let missing = position_none locks variables op a b c 1 (table a b c) (omega arith) e in let q : false ≡ true = rw missing at valid in differ cc

-- there are no more row numbers than rows, from 1 on
pub row_below : (op : ℕ) → row_of op < 1 + length (table 0 0 0)
unfolding row_of
row_below op = position_below op 1 (table 0 0 0) (omega arith)

-- ---- limits

-- a field is right exactly if it lies below its limit
right_below : (locks variables x : ℕ) → x < 256 → (k : FieldKind) → ltb x (limit_of locks variables k) ≡ is_right locks variables k x
right_below locks variables x h register = refl
right_below locks variables x h variable = refl
right_below locks variables x h lock = refl
right_below locks variables zero h zero_field = refl
right_below locks variables (suc x) h zero_field = le-ltb (suc x) 1 (omega arith) ∙ sym (ne_eqb (suc x) 0 (omega arith))
right_below locks variables x h part = lt-ltb x 256 h
right_below locks variables x h statement = refl

module _ (locks variables op a b c : ℕ) (p : a < 256) (q : b < 256) (r : c < 256) where
  abbrev FitsAt : ℕ → Type 0
  FitsAt n = fits (get_or (limits_of locks variables) n no_limits) a b c ≡ is_valid (decode locks variables op a b c)

  fits_some : (m : ℕ) → row_of op ≡ suc m → FitsAt (suc m)
  unfolding decode limits_of row_of
  fits_some m e =
      let x = get_or (table a b c) m no_row in
      let h : m < length (table 0 0 0) = omega (arith, e, row_below op) in
      rw (
        get_d_any (map (row_limits locks variables) (table a b c)) m _ (row_limits locks variables no_row) h,
        get_or-map (row_limits locks variables) (table a b c) m no_row,
        right_below locks variables a p x.a,
        right_below locks variables b q x.b,
        right_below locks variables c r x.c,
      )
      (sym (ap is_valid (position_found locks variables op a b c 1 m (table a b c) (omega arith) (omega (arith, e)))
      ∙ valid_fields (is_right_row locks variables a b c x) x.instruction))

  fits_none : row_of op ≡ 0 → FitsAt 0
  unfolding limits_of decode row_of
  fits_none e = rw (le-ltb a 0 (omega arith), position_none locks variables op a b c 1 (table a b c) (omega arith) e)

  -- bytes are valid exactly if they lie below the limits of their row
  pub fits_valid : FitsAt (row_of op)
  fits_valid = cases (row_of op) refl
    where
      cases : (k : ℕ) → row_of op ≡ k → FitsAt k
      cases zero e = fits_none e
      cases (suc m) e = fits_some m e

-- ---- registers

-- three tests that hold together hold
pub all_right : (x y z : Bool) → (x && y && z) ≡ true → (x ≡ true) × (y ≡ true) × (z ≡ true)
all_right x y z e =
    let h = (and-eq-true_iff (x && y) z).0 e in
    let g = (and-eq-true_iff x y).0 h.0 in
    (g.0, g.1, h.1)

-- a register field names a register before those of the fields after it
abbrev register_in : FieldKind → ℕ → List ℕ → List ℕ
register_in register x rs = x ∷ rs
register_in variable x rs = rs
register_in lock x rs = rs
register_in zero_field x rs = rs
register_in part x rs = rs
register_in statement x rs = rs

abbrev pub registers_in : TableRow → (a b c : ℕ) → List ℕ
registers_in r a b c = register_in r.a a (register_in r.b b (register_in r.c c []))

right_register : (locks variables x : ℕ) (k : FieldKind) (rs : List ℕ) → is_right locks variables k x ≡ true → AreRegisters rs
    → AreRegisters (register_in k x rs)
right_register locks variables x register rs e h = (ltb-true x register_count e, h)
right_register locks variables x variable rs e h = h
right_register locks variables x lock rs e h = h
right_register locks variables x zero_field rs e h = h
right_register locks variables x part rs e h = h
right_register locks variables x statement rs e h = h

-- the registers of right fields are registers that there are
pub right_registers : (locks variables a b c : ℕ) (r : TableRow) → is_right_row locks variables a b c r ≡ true → AreRegisters (registers_in r a b c)
right_registers locks variables a b c r e =
    let h = all_right (is_right locks variables r.a a) (is_right locks variables r.b b) (is_right locks variables r.c c) e in
    right_register locks variables a r.a _ h.0 (right_register locks variables b r.b _ h.1 (right_register locks variables c r.c [] h.2 tt))

-- ---- what the rows have in common

-- a test of a row and its number holds of each of some rows, the first of which has number n
abbrev each_row : (ℕ → TableRow → Bool) → (n : ℕ) → List TableRow → Bool
each_row test n [] = true
each_row test n (r ∷ rs) = test n r && each_row test (suc n) rs

pub each_row_lem : (test : ℕ → TableRow → Bool) (n m : ℕ) (rows : List TableRow) → each_row test n rows ≡ true → m < length rows
    → test (n + m) (get_or rows m no_row) ≡ true
each_row_lem test n m [] e h = absurd (let z : ⊥ = omega arith in z)
each_row_lem test n zero (r ∷ rs) e h = let same : n + 0 ≡ n = omega arith in rw same ((and-eq-true_iff (test n r) (each_row test (suc n) rs)).0 e).0
each_row_lem test n (suc m) (r ∷ rs) e h =
    let same : n + suc m ≡ suc n + m = omega arith in
    rw same (each_row_lem test (suc n) m rs ((and-eq-true_iff (test n r) (each_row test (suc n) rs)).0 e).1 (omega arith))

pub or_right : (x y : Bool) → (x || y) ≡ true → x ≡ false → y ≡ true
or_right true y e k = differ cc
or_right false y e k = e

-- ---- rows of the enum

-- what two lists of rows show of each is the same: where both are known, `refl` compares them
each_same : {A : Type 0} (f g : TableRow → A) (xs ys : List TableRow) → f no_row ≡ g no_row → map f xs ≡ map g ys → (m : ℕ)
    → f (get_or xs m no_row) ≡ g (get_or ys m no_row)
each_same f g xs ys outside same m =
    sym (get_or-map f xs m no_row) ∙ ap (λ us. get_or us m (f no_row)) same ∙ ap (get_or (map g ys) m) outside ∙ get_or-map g ys m no_row

-- fields b and c say the distance alone
pub by_row : (r : Row) (a b c : ℕ) → form_of (instruction_in r a b c) ≡ at_distance (b * 256 + c) (form_of (instruction_in r a 0 0))
unfolding form_of
by_row r a b c =
    each_same (λ x. form_of x.instruction) (λ x. at_distance (b * 256 + c) (form_of x.instruction)) (no_row ∷ table a b c) (no_row ∷ table a 0 0)
    refl refl (number_of r)

-- whether a form is plain is the row's
plain_by_row : (r : Row) (a b c : ℕ) → is_plain (form_of (instruction_in r a b c)) ≡ is_plain (form_of (instruction_in r 0 0 0))
unfolding form_of
plain_by_row r a b c =
    each_same (λ x. is_plain (form_of x.instruction)) (λ x. is_plain (form_of x.instruction)) (no_row ∷ table a b c) (no_row ∷ table 0 0 0)
    refl refl (number_of r)

pub plain_is : (f : Form) → is_plain f ≡ true → f ≡ form.Plain
plain_is form.Plain e = refl
plain_is (form.If a n) e = differ cc
plain_is (form.Else n) e = differ cc
plain_is (form.While a n) e = differ cc
plain_is (form.Again n) e = differ cc
plain_is (form.Atomic n) e = differ cc
plain_is form.End e = differ cc

-- the registers that a row's instruction names are its register fields
registers_by_row : (r : Row) (a b c : ℕ) → registers_of (seen (instruction_in r a b c)) ≡ registers_in (row_in r a b c) a b c
registers_by_row r a b c =
    each_same (λ x. registers_of (seen x.instruction)) (λ x. registers_in x a b c) (no_row ∷ table a b c) (no_row ∷ table a b c)
    refl refl (number_of r)

-- rows 10 to 15
abbrev pub nests : ℕ → Bool
nests n = leb 10 n && leb n 15

module _ (locks variables op a b c : ℕ) (valid : is_valid (decode locks variables op a b c) ≡ true) (r : Row) (e : number_of r ≡ row_of op) where
  m : ℕ
  m = row_of op - 1

  is_m : row_of op ≡ suc m
  unfolding m
  is_m = omega (arith, row_some locks variables op a b c valid)

  -- the row of the enum is the op code's
  row_number : number_of r ≡ suc m
  row_number = e ∙ is_m

  of_some : {is : Bool} → is_nesting r ≡ is → not (is_plain (form_of (instruction_in r 0 0 0))) ≡ is
  of_some h = ap (λ some. some && not (is_plain (form_of (instruction_in r 0 0 0)))) (sym (lt-ltb 0 (number_of r) (omega (arith, row_number)))) ∙ h

  -- valid bytes are the instruction of their op code's row
  pub row_instruction : instruction_in r a b c ≡ decoded_instruction (decode locks variables op a b c)
  row_instruction = rw (instruction_in, row_in, row_number) (row_said locks variables op a b c m is_m valid).0

  -- ... which names registers that there are
  pub row_registers : RegistersGood (instruction_in r a b c)
  row_registers =
      rw (registers_by_row r a b c, row_in, row_number)
      (right_registers locks variables a b c (get_or (table a b c) m no_row) (row_said locks variables op a b c m is_m valid).1)

  -- the form of an opener or a closer is its row's
  pub row_form_lem : is_nesting r ≡ true → form_of (decoded_instruction (decode locks variables op a b c)) ≡ row_form r a (b * 256 + c)
  row_form_lem nesting = rw (nesting, ← row_instruction) (by_row r a b c)

  -- any other is plain
  pub row_plain : is_nesting r ≡ false → form_of (decoded_instruction (decode locks variables op a b c)) ≡ form.Plain
  row_plain other = rw (← row_instruction) (plain_is _ (plain_by_row r a b c ∙ not-false _ (of_some other)))

  -- openers and closers are rows 10 to 15
  pub nesting_rows : is_nesting r ≡ true → nests (number_of r) ≡ true
  unfolding form_of
  nesting_rows is =
      let shaped : is_plain (form_of (instruction_in r 0 0 0)) ≡ false = not-true _ (of_some is) in
      let number : 1 + m ≡ number_of r = omega (arith, row_number) in
      rw (← number)
      (or_right _ (nests (1 + m))
      (each_row_lem (λ n x. is_plain (form_of x.instruction) || nests n) 1 m (table 0 0 0) refl (omega (arith, is_m, row_below op)))
      (rw (instruction_in, row_in, row_number) at shaped))

-- ---- accesses

no_access : Access → Bool
no_access none = true
no_access (reads v) = false
no_access (writes v a) = false
no_access (takes k) = false
no_access (gives k) = false

no_access_is : (x : Access) → no_access x ≡ true → x ≡ none
unfolding no_access
no_access_is none e = refl
no_access_is (reads v) e = differ cc
no_access_is (writes v a) e = differ cc
no_access_is (takes k) e = differ cc
no_access_is (gives k) e = differ cc

-- rows 6 to 9: READ, WRITE, TAKE, GIVE
abbrev accesses : ℕ → Bool
accesses n = leb 6 n && leb n 9

four_rows : (P : ℕ → Type 0) (m : ℕ) → 5 ≤ m → m ≤ 8 → P 5 → P 6 → P 7 → P 8 → P m
four_rows P m low high p₅ p₆ p₇ p₈ = elim (ℕ_discrete m 5) [
  | yes e ↦ subst P (sym e) p₅
  | no n₅ ↦ elim (ℕ_discrete m 6) [
    | yes e ↦ subst P (sym e) p₆
    | no n₆ ↦ elim (ℕ_discrete m 7) [
      | yes e ↦ subst P (sym e) p₇
      | no n₇ ↦ let e : m ≡ 8 = omega (arith, n₅, n₆, n₇) in subst P (sym e) p₈
    ]
  ]
]

module _ (locks variables a b c : ℕ) where
  -- the access of row m, counted from 0, if its fields are right
  abbrev RowBelow : ℕ → Type 0
  RowBelow m = is_right_row locks variables a b c (get_or (table a b c) m no_row) ≡ true
      → AccessBelow locks variables (access_of (get_or (table a b c) m no_row).instruction)

  access_row : (m : ℕ) → m < length (table 0 0 0) → RowBelow m
  unfolding access_of no_access
  access_row m h = cases (accesses (1 + m)) refl
    where
      none_or : (accesses (1 + m) || no_access (access_of (get_or (table a b c) m no_row).instruction)) ≡ true
      none_or = each_row_lem (λ n r. accesses n || no_access (access_of r.instruction)) 1 m (table a b c) refl (omega arith)

      variable_below : RowBelow 5
      variable_below e = ltb-true b variables (all_right (ltb a register_count) (ltb b variables) (eqb c 0) e).1

      lock_below : RowBelow 7
      lock_below e = ltb-true a locks (all_right (ltb a locks) (eqb b 0) (eqb c 0) e).0

      cases : (is : Bool) → accesses (1 + m) ≡ is → RowBelow m
      cases true e =
          let k = (and-eq-true_iff (leb 6 (1 + m)) (leb (1 + m) 9)).0 e in
          let low = leb-true 6 (1 + m) k.0 in
          let high = leb-true (1 + m) 9 k.1 in
          four_rows RowBelow m (omega arith) (omega arith) variable_below variable_below lock_below lock_below
      cases false e =
          λ _.
          subst (AccessBelow locks variables) (sym (no_access_is (access_of (get_or (table a b c) m no_row).instruction) (or_right (accesses (1 + m)) _ none_or e))) tt

module _ (locks variables op a b c : ℕ) where
  abbrev pub Below : Decoded → Type 0
  Below d = AccessBelow locks variables (access_of (decoded_instruction d))

  -- invalid bytes give END, which makes no access
  invalid_below : (d : Decoded) → is_valid d ≡ false → Below d
  unfolding access_of
  invalid_below (Valid i) e = differ cc
  invalid_below Invalid e = tt

  pub access_below : Below (decode locks variables op a b c)
  access_below = cases (is_valid (decode locks variables op a b c)) refl
    where
      cases : (valid : Bool) → is_valid (decode locks variables op a b c) ≡ valid → Below (decode locks variables op a b c)
      cases true e =
          let m = row_of op - 1 in
          let is_m : row_of op ≡ suc m = omega (arith, row_some locks variables op a b c e) in
          let said = row_said locks variables op a b c m is_m e in
          subst (λ (i : Instruction). AccessBelow locks variables (access_of i)) said.0
          (access_row locks variables a b c m (omega (arith, row_below op)) said.1)
      cases false e = invalid_below (decode locks variables op a b c) e

-- locks and variables below their counts, at any offset
pub instruction_access : (locks variables : ℕ) (s : List ℕ) (at : ℕ) → AccessBelow locks variables (access_of (decoded_instruction (decode_at locks variables s at)))
unfolding decode_at
instruction_access locks variables s at = access_below locks variables (byte_at s at) (byte_at s (at + 1)) (byte_at s (at + 2)) (byte_at s (at + 3))

-- what lies below two counts lies below larger ones
pub access_wider : {k v k' v' : ℕ} → k ≤ k' → v ≤ v' → (x : Access) → AccessBelow k v x → AccessBelow k' v' x
access_wider p q none h = tt
access_wider p q (reads v) h = lt_of_lt_of_le h q
access_wider p q (writes v a) h = lt_of_lt_of_le h q
access_wider p q (takes k) h = lt_of_lt_of_le h p
access_wider p q (gives k) h = lt_of_lt_of_le h p

-- ---- any instruction

abbrev pub AllRows : (Instruction → Type 0) → List TableRow → Type 0
AllRows P [] = Unit
AllRows P (r ∷ rs) = P r.instruction × AllRows P rs

module _ (P : Instruction → Type 0) (end : P End) (locks variables op a b c : ℕ) where
  lookup_holds : (rows : List TableRow) → AllRows P rows → P (decoded_instruction (look_up locks variables op a b c rows))
  lookup_holds [] h = end
  lookup_holds (r ∷ rs) h = cases (eqb op r.op) (is_right_row locks variables a b c r) (lookup_holds rs h.1)
    where
      cases : (same right : Bool) → P (decoded_instruction (look_up locks variables op a b c rs))
          → P (decoded_instruction (choose same (choose right (Valid r.instruction) Invalid) (look_up locks variables op a b c rs)))
      cases true true rest = h.0
      cases true false rest = end
      cases false right rest = rest

  pub decode_holds : AllRows P (table a b c) → P (decoded_instruction (decode locks variables op a b c))
  unfolding decode
  decode_holds h = lookup_holds (table a b c) h

-- ---- the table of rows

rows_from_lem : (n op i : ℕ) → i < n → get_or (rows_from n op) i 0 ≡ row_of (op + i)
unfolding rows_from
rows_from_lem zero op i h = absurd (let z : ⊥ = omega arith in z)
rows_from_lem (suc n) op zero h = ap row_of (omega arith)
rows_from_lem (suc n) op (suc i) h = rows_from_lem n (suc op) i (omega arith) ∙ ap row_of (omega arith)

-- by op code
pub rows_at : (op : ℕ) → op < 256 → get_or row_table op 0 ≡ row_of op
unfolding row_table
rows_at op h = rows_from_lem 256 0 op h ∙ ap row_of (zero-add op)

-- ... for a table of the enum's rows
pub rows_numbered : (op : ℕ) → op < 256 → (rows : List Row) → map number_of rows ≡ row_table → number_of (get_or rows op row.Unknown) ≡ row_of op
rows_numbered op h rows e = sym (get_or-map number_of rows op row.Unknown) ∙ ap (λ (ns : List ℕ). get_or ns op 0) e ∙ rows_at op h

-- ... and of each number
pub rows_in_order : (n count : ℕ) → n < count → (rows : List Row) → map number_of rows ≡ range_with_len 0 count → number_of (get_or rows n row.Unknown) ≡ n
rows_in_order n count h rows e =
    sym (get_or-map number_of rows n row.Unknown) ∙ ap (λ (ns : List ℕ). get_or ns n 0) e ∙ get_or-range_with_len 0 count n 0 h ∙ zero-add n

-- the row that is found by a number that there is has it
pub numbered_below : (n : ℕ) (r : Row) → number_of r ≡ choose (ltb n row_count) n 0 → n < row_count → number_of r ≡ n
numbered_below n r e h = rw (lt-ltb n row_count h) at e
