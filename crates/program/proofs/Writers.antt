-- The threads that write a variable. Assumes nothing.
--     has_write_lem              a code has the WRITE that stands at a place of it
--     written_by, writer_found   another thread's code has one exactly if some code other than c does
use Prim.Native.Nat.{ℕ, zero, suc, ◌+◌, ◌<◌}
use mathlib.Core.Path.{◌≡◌, refl}
use mathlib.Core.Logic.{◌≢◌}
use mathlib.Core.Bool.{Bool, true, false, not, ◌&&◌, ◌||◌, and-eq-true_iff, or-true}
use mathlib.Core.List.{List, [], ◌∷◌}
use lib.Dec.{eqb}
use lib.ListN.{length, get_or}
use native.Mathlib.Omega.{arith}
use borrow.Author.Tests.{eqb-false, eq-eqb, ne_eqb, not-true}
use Rattle.program.specs.Layout.{Program, CodeSection, code_of}
use Rattle.program.specs.View.{writes, access_of}
use Rattle.program.specs.Writers.{is_write_of, has_write, written_from, written_by_other}
use Rattle.program.specs.Internal.Sections.{no_section}
use Rattle.program.specs.declared.instruction.Instruction.{Instruction}
use Rattle.program.specs.declared.instruction.Instruction.TheVariants.{End}
use Rattle.program.proofs.Differ.{differ}

or_cases : {C : Type 0} (a b : Bool) → (a || b) ≡ true → (a ≡ true → C) → (b ≡ true → C) → C
or_cases true b e first second = first refl
or_cases false b e first second = second e

pub has_write_lem : (is : List Instruction) (q v a : ℕ) → access_of (get_or is q End) ≡ writes v a → has_write v is ≡ true
unfolding has_write access_of
has_write_lem [] q v a e = differ cc
has_write_lem (i ∷ is) zero v a e = rw (e, eq-eqb v v refl)
has_write_lem (i ∷ is) (suc q) v a e = rw (has_write_lem is q v a e) (or-true (is_write_of v (access_of i)))

-- one of the codes from number n on
written_from_lem : (c v n : ℕ) (xs : List CodeSection) (u : ℕ) → n + u ≢ c → has_write v (get_or xs u no_section).code ≡ true → written_from c v n xs ≡ true
unfolding has_write written_from
written_from_lem c v n [] u other e = differ cc
written_from_lem c v n (x ∷ xs) zero other e = rw (ne_eqb n c (λ same. other (omega (arith, same))), e)
written_from_lem c v n (x ∷ xs) (suc u) other e =
    rw (written_from_lem c v (suc n) xs u (λ same. other (omega (arith, same))) e) (or-true (not (eqb n c) && has_write v x.code))

writer_from : (c v n : ℕ) (xs : List CodeSection) → written_from c v n xs ≡ true
    → (u : ℕ) × (n + u ≢ c) × (u < length xs) × (has_write v (get_or xs u no_section).code ≡ true)
unfolding written_from
writer_from c v n [] e = differ cc
writer_from c v n (x ∷ xs) e =
    or_cases (not (eqb n c) && has_write v x.code) (written_from c v (suc n) xs) e
    (λ h.
    let both = (and-eq-true_iff (not (eqb n c)) (has_write v x.code)).0 h in
    (0, (λ same. eqb-false n c (not-true (eqb n c) both.0) (omega (arith, same))), omega arith, both.1))
    (λ h.
    let w = writer_from c v (suc n) xs h in
    (suc w.0, (λ same. w.1 (omega (arith, same))), omega (arith, w.2), w.3))

pub written_by : (p : Program) (c u v : ℕ) → u ≢ c → has_write v (code_of p u) ≡ true → written_by_other p c v ≡ true
unfolding written_by_other code_of
written_by p c u v other e = written_from_lem c v 0 p.codes u (λ same. other (omega (arith, same))) e

pub writer_found : (p : Program) (c v : ℕ) → written_by_other p c v ≡ true
    → (u : ℕ) × (u ≢ c) × (u < length p.codes) × (has_write v (code_of p u) ≡ true)
unfolding written_by_other code_of
writer_found p c v e =
    let w = writer_from c v 0 p.codes e in
    (w.0, (λ same. w.1 (omega (arith, same))), w.2, w.3)
