-- MULH's rounding in the standard's words. Assumes nothing.
--     nearest_exactly   a number is what the calculation gives exactly if it is the nearest one
use Rattle.std.proofs.Common.{◌≡◌, ◌↔◌, refl, sym, subst, Bool, true, false, ltb, ltb-true, arith, ℤ, pos, negsuc}
use Rattle.std.proofs.lemmas.Int.{ints}
use Rattle.std.specs.Prelude.{int_lt}
use Rattle.machine.specs.Signed.{rounded_hundredth, Nearest}

-- what the calculation gives is nearest
rounded_nearest : (p : ℤ) → Nearest p (rounded_hundredth p)
unfolding rounded_hundredth
rounded_nearest (pos n) = by (ltb n 0) refl
  where
    by : (t : Bool) → int_lt (pos n) (pos 0) ≡ t → Nearest (pos n) (rounded_hundredth (pos n))
    by true e = absurd (omega (arith, ltb-true n 0 e))
    by false e = rw e (record { near = omega (arith, ints); farther = λ e. omega (arith, ints) })
rounded_nearest (negsuc n) = record { near = omega (arith, ints); farther = λ e. omega (arith, ints) }

-- two nearest numbers are the same
nearest_same : (p q q' : ℤ) → Nearest p q → Nearest p q' → q ≡ q'
nearest_same p q q' a b = grind (arith, ints)

pub nearest_exactly : (p q : ℤ) → (q ≡ rounded_hundredth p) ↔ Nearest p q
nearest_exactly p q = (λ e. subst (Nearest p) (sym e) (rounded_nearest p), λ near. nearest_same p q (rounded_hundredth p) near (rounded_nearest p))
