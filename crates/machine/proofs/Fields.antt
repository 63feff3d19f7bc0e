-- What a sound file's instruction reaches, and where it goes. Assumes nothing.
--     fields_eq      equal instructions: the fields of one are right if the other's are
--     place_inside   from a place of well nested code an instruction goes to a place of that code, or to its end
use Rattle.std.proofs.Common.{◌≡◌, ℕ, ◌+◌, ◌<◌, ◌≤◌, Bool, true, false, eqb, List, [], length, get_or, subst, arith, None}
use Rattle.program.specs.Choice.{choose}
use Rattle.program.specs.View.{form_of, Form, Plain, If, Else, While, Again, Atomic, End}
use Rattle.program.specs.Nesting.{first_broken}
use Rattle.program.specs.Internal.Sound.{FieldsGood}
use Rattle.program.specs.Internal.WellFormed.{Jump}
use Rattle.program.specs.declared.instruction.Instruction.{Instruction}
use Rattle.program.specs.declared.instruction.Instruction.TheVariants as instruction
use Rattle.program.proofs.Jumps.{jump}
use Rattle.program.specs.Limits.{lock_limit, variable_limit}
use Rattle.machine.specs.Step.{place_after, place_behind, branch, reg}

pub fields_eq : {i j : Instruction} → i ≡ j → FieldsGood lock_limit variable_limit i → FieldsGood lock_limit variable_limit j
fields_eq e h = subst (FieldsGood lock_limit variable_limit) e h

-- where IF and WHILE go
branch_inside : (zero : Bool) (n place q : ℕ) → place + n < q → choose zero (place + n + 1) (place + 1) ≤ q
branch_inside true n place q h = omega arith
branch_inside false n place q h = omega arith

-- an instruction of this form, with its jump inside
place_behind_inside : (f : Form) (r : List ℕ) (place q : ℕ) → place < q → Jump q place f → place_behind f r place ≤ q
unfolding place_behind branch
place_behind_inside Plain r place q l j = omega arith
place_behind_inside (If a n) r place q l j = branch_inside (eqb (reg r a) 0) n place q j
place_behind_inside (Else n) r place q l j = omega arith
place_behind_inside (While a n) r place q l j = branch_inside (eqb (reg r a) 0) n place q j
place_behind_inside (Again n) r place q l j = omega arith
place_behind_inside (Atomic n) r place q l j = omega arith
place_behind_inside End r place q l j = omega arith

pub place_inside : (is : List Instruction) → first_broken 0 is [] ≡ None → (r : List ℕ) (place : ℕ) → place < length is
    → place_after (get_or is place instruction.End) r place ≤ length is
unfolding place_after
place_inside is nested r place l =
    place_behind_inside (form_of (get_or is place instruction.End)) r place (length is) l (jump is nested place l)
