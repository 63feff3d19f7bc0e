-- Constructors that differ are not equal.
--     differ   what follows from an equation of two of them: `differ cc`, which has `cc` prove 0 ≡ 1 from the equations in scope
-- Assumes nothing.
use Prim.Native.Nat.{ℕ}
use mathlib.Core.Path.{◌≡◌}
use native.Mathlib.Omega.{arith}

pub differ : {A : Type 0} → ◌≡◌ {A = ℕ} 0 1 → A
differ e = absurd (let none : ⊥ = omega arith in none)
