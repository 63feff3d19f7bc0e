-- How the definitions decide.
use Rattle.std.specs.Prelude.{ℕ, zero, suc, ◌+◌, Bool, true, false, Option, Some, None}

-- the first if the test holds, else the second
abbrev pub choose : {A : Type 0} → Bool → A → A → A
choose true a b = a
choose false a b = b

-- the first of n offsets, `step` apart from `at` on, at which the test fails
unfoldable pub first_bad : (ℕ → Bool) → (step n at : ℕ) → Option ℕ
first_bad good step zero at = None
first_bad good step (suc n) at = choose (good at) (first_bad good step n (at + step)) (Some at)
