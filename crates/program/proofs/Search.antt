-- The search for the first offence, one offset at a time. Assumes nothing.
--     first_bad_good      a good offset is passed
--     first_bad_bad       a bad one ends the search
--     first_bad_end       none is left
--     first_bad_nowhere   a search that ends nowhere found each offset good
--     first_bad_all       a search over offsets that are all good ends nowhere
--     first_bad_at        a bad offset that only good ones stand before is found
use Prim.Native.Nat.{ℕ, zero, suc, ◌+◌, ◌-◌, ◌*◌, ◌<◌, ◌≤◌}
use mathlib.Core.Path.{◌≡◌, refl}
use mathlib.Core.Bool.{Bool, true, false}
use native.Mathlib.Nat.{mul-zero, mul-suc}
use native.Mathlib.Numerals.{sub-one}
use native.Mathlib.Omega.{arith}
use Rattle.program.specs.Choice.{choose, first_bad}
use Rattle.std.specs.Prelude.{Option, Some, None}
use Rattle.program.proofs.Differ.{differ}

-- the test held
test_held : (b : Bool) (f : Option ℕ) (at : ℕ) → choose b f (Some at) ≡ None → (b ≡ true) × (f ≡ None)
test_held true f at e = (refl, e)
test_held false f at e = differ cc

module _ (good : ℕ → Bool) (step : ℕ) where
  -- a good offset is passed
  pub first_bad_good : (n at : ℕ) → 0 < n → good at ≡ true → first_bad good step n at ≡ first_bad good step (n - 1) (at + step)
  unfolding first_bad
  first_bad_good zero at h g = absurd (let z : ⊥ = omega arith in z)
  first_bad_good (suc n) at h g = rw (g, sub-one (suc n))

  -- a bad one ends the search
  pub first_bad_bad : (n at : ℕ) → 0 < n → good at ≡ false → first_bad good step n at ≡ Some at
  unfolding first_bad
  first_bad_bad zero at h g = absurd (let z : ⊥ = omega arith in z)
  first_bad_bad (suc n) at h g = rw g

  -- none is left
  pub first_bad_end : (n at : ℕ) → n ≤ 0 → first_bad good step n at ≡ None
  unfolding first_bad
  first_bad_end zero at h = refl
  first_bad_end (suc n) at h = absurd (let z : ⊥ = omega arith in z)

  -- a search that ends nowhere found each offset good
  pub first_bad_nowhere : (n at : ℕ) → first_bad good step n at ≡ None → (i : ℕ) → i < n → good (at + step * i) ≡ true
  unfolding first_bad
  first_bad_nowhere zero at e i h = absurd (let z : ⊥ = omega arith in z)
  first_bad_nowhere (suc n) at e zero h =
      let o : at + step * 0 ≡ at = rw mul-zero (omega arith) in
      rw o (test_held (good at) (first_bad good step n (at + step)) at e).0
  first_bad_nowhere (suc n) at e (suc i) h =
      let o : at + step * suc i ≡ at + step + step * i = rw mul-suc (omega arith) in
      rw o (first_bad_nowhere n (at + step) (test_held (good at) (first_bad good step n (at + step)) at e).1 i (omega arith))

  -- a search over offsets that are all good ends nowhere
  pub first_bad_all : (n at : ℕ) → ((i : ℕ) → i < n → good (at + step * i) ≡ true) → first_bad good step n at ≡ None
  unfolding first_bad
  first_bad_all zero at h = refl
  first_bad_all (suc n) at h =
      let here : at + step * 0 ≡ at = rw mul-zero (omega arith) in
      rw (rw here at (h 0 (omega arith)))
      (first_bad_all n (at + step) (λ i l.
      let there : at + step + step * i ≡ at + step * suc i = rw mul-suc (omega arith) in
      rw there (h (suc i) (omega arith))))

  -- a bad offset that only good ones stand before is found
  pub first_bad_at : (n at i : ℕ) → i < n → ((k : ℕ) → k < i → good (at + step * k) ≡ true) → good (at + step * i) ≡ false
      → first_bad good step n at ≡ Some (at + step * i)
  unfolding first_bad
  first_bad_at zero at i h before bad = absurd (let z : ⊥ = omega arith in z)
  first_bad_at (suc n) at zero h before bad =
      let here : at + step * 0 ≡ at = rw mul-zero (omega arith) in
      rw (here, rw here at bad)
  first_bad_at (suc n) at (suc i) h before bad =
      let here : at + step * 0 ≡ at = rw mul-zero (omega arith) in
      let there : (k : ℕ) → at + step * suc k ≡ at + step + step * k = λ k. rw mul-suc (omega arith) in
      let first : good at ≡ true = rw here at (before 0 (omega arith)) in
      let later = first_bad_at n (at + step) i (omega arith) (λ k l. rw (there k) at (before (suc k) (omega arith))) (rw (there i) at bad) in
      rw (there i, first) later
