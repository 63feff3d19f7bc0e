-- What an instruction marks in the table of writers, by its row. Assumes nothing.
--     row_marks               what the walk does by the row of an instruction
--     row_variable            a WRITE names a variable that there is
--     nesting_unmarked        openers and closers are no WRITEs
--     length-by_row           the table keeps its length
use Prim.Native.Nat.{ℕ, suc, ◌+◌, ◌-◌, ◌<◌}
use mathlib.Core.Path.{◌≡◌, refl, ap, ◌∙◌}
use mathlib.Core.Bool.{Bool, true, false, ◌||◌}
use mathlib.Core.List.{List}
use native.Mathlib.Omega.{arith}
use borrow.Author.Tests.{eqb-true, ne_eqb}
use lib.Dec.{eqb}
use lib.ListN.{length, get_or, length-set}
use Rattle.program.specs.Choice.{choose}
use Rattle.program.specs.Instruction.{table, decode, decoded_instruction, is_valid}
use Rattle.program.specs.View.{Access, none, reads, writes, takes, gives, access_of, form_of}
use Rattle.program.specs.Internal.Marks.{write_row, marked_at, marked}
use Rattle.program.specs.Internal.Rows.{row_of, no_row, number_of, row_in, instruction_in, is_nesting}
use Rattle.program.specs.declared.instruction.Row.{Row}
use Rattle.program.proofs.Decode.{each_row_lem, or_right, row_said, row_some, row_below, access_below}
use Rattle.program.proofs.Differ.{differ}

no_write : Access → Bool
no_write none = true
no_write (reads v) = true
no_write (writes v a) = false
no_write (takes k) = true
no_write (gives k) = true

unmarked : (bit : ℕ) (x : Access) (t : List ℕ) → no_write x ≡ true → marked bit x t ≡ t
unfolding no_write
unmarked bit none t e = refl
unmarked bit (reads v) t e = refl
unmarked bit (writes v a) t e = differ cc
unmarked bit (takes k) t e = refl
unmarked bit (gives k) t e = refl

module _ (locks variables op a b c : ℕ) (valid : is_valid (decode locks variables op a b c) ≡ true) where
  -- the access of row 7
  write_access : row_of op ≡ write_row → access_of (decoded_instruction (decode locks variables op a b c)) ≡ writes b a
  unfolding access_of
  write_access e = rw (← (row_said locks variables op a b c 6 e valid).0)

  -- no other row's is a WRITE
  other_access : eqb (row_of op) write_row ≡ false → no_write (access_of (decoded_instruction (decode locks variables op a b c))) ≡ true
  unfolding access_of no_write
  other_access e =
      let m = row_of op - 1 in
      let is_m : row_of op ≡ suc m = omega (arith, row_some locks variables op a b c valid) in
      let number : 1 + m ≡ row_of op = omega (arith, is_m) in
      rw (← (row_said locks variables op a b c m is_m valid).0)
      (or_right (eqb (1 + m) write_row) (no_write (access_of (get_or (table a b c) m no_row).instruction))
      (each_row_lem (λ n r. eqb n write_row || no_write (access_of r.instruction)) 1 m (table a b c) refl (omega (arith, row_below op)))
      (rw number e))

  pub row_marks : (bit : ℕ) (t : List ℕ)
      → marked bit (access_of (decoded_instruction (decode locks variables op a b c))) t ≡ choose (eqb (row_of op) write_row) (marked_at bit b t) t
  row_marks bit t = cases (eqb (row_of op) write_row) refl
    where
      cases : (is : Bool) → eqb (row_of op) write_row ≡ is
          → marked bit (access_of (decoded_instruction (decode locks variables op a b c))) t ≡ choose is (marked_at bit b t) t
      cases true e = ap (λ (x : Access). marked bit x t) (write_access (eqb-true (row_of op) write_row e))
      cases false e = unmarked bit (access_of (decoded_instruction (decode locks variables op a b c))) t (other_access e)

  -- a WRITE names a variable that there is
  pub row_variable : row_of op ≡ write_row → b < variables
  row_variable e = rw (write_access e) at (access_below locks variables op a b c)

-- openers and closers are no WRITEs
pub nesting_unmarked : (r : Row) → is_nesting r ≡ true → eqb (number_of r) write_row ≡ false
unfolding form_of
nesting_unmarked r e = ne_eqb (number_of r) write_row (λ same. let q : false ≡ true = rw (is_nesting, instruction_in, row_in, same) at e in differ cc)

-- the table keeps its length
pub length-by_row : (row bit v : ℕ) (t t' : List ℕ) → t' ≡ choose (eqb row write_row) (marked_at bit v t) t → length t' ≡ length t
length-by_row row bit v t t' e = ap length e ∙ cases (eqb row write_row)
  where
    cases : (is : Bool) → length (choose is (marked_at bit v t) t) ≡ length t
    cases true = length-set t v _
    cases false = refl
