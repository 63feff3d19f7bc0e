-- A file's contents by index. Assumes nothing.
--     length-instructions, get_or-instructions   the instructions of a code section
--     length-variables, get_or-variables         the variable records
--     length-codes                               the code sections
use Prim.Native.Nat.{ℕ, zero, suc, ◌+◌, ◌*◌, ◌/◌, ◌<◌}
use mathlib.Core.Path.{◌≡◌, refl, ap, ◌∙◌}
use mathlib.Core.List.{List, [], ◌∷◌}
use lib.ListN.{length, get_or}
use native.Mathlib.Nat.{mul-suc}
use native.Mathlib.Omega.{arith}
use Rattle.program.specs.Field.{pair_at}
use Rattle.program.specs.Instruction.{decode_at, decoded_instruction}
use Rattle.program.specs.Variable.{Variable, variable_at}
use Rattle.program.specs.Layout.{instructions_at, variables_at, codes_at}
use Rattle.program.specs.declared.instruction.Instruction.TheVariants.{End}

-- n items from an offset on, `step` bytes apart: what both kinds of sections are
abbrev items : {A : Type 0} → (ℕ → A) → (step n at : ℕ) → List A
items f step zero at = []
items f step (suc n) at = f at ∷ items f step n (at + step)

length-items : {A : Type 0} (f : ℕ → A) (step n at : ℕ) → length (items f step n at) ≡ n
length-items f step zero at = refl
length-items f step (suc n) at = ap suc (length-items f step n (at + step))

get_or-items : {A : Type 0} (f : ℕ → A) (step n at i : ℕ) (d : A) → i < n → get_or (items f step n at) i d ≡ f (at + step * i)
get_or-items f step zero at i d h = absurd (let z : ⊥ = omega arith in z)
get_or-items f step (suc n) at zero d h = ap f (omega arith)
get_or-items f step (suc n) at (suc i) d h =
    get_or-items f step n (at + step) i d (omega arith) ∙ ap f (rw mul-suc (omega arith))

module _ (locks variables : ℕ) (s : List ℕ) where
  instructions_items : (n at : ℕ)
      → instructions_at locks variables s n at ≡ items (λ p. decoded_instruction (decode_at locks variables s p)) 4 n at
  unfolding instructions_at
  instructions_items zero at = refl
  instructions_items (suc n) at = rw (instructions_items n (at + 4))

  -- as many instructions as counted
  pub length-instructions : (n at : ℕ) → length (instructions_at locks variables s n at) ≡ n
  length-instructions n at = rw (instructions_items n at) (length-items _ 4 n at)

  -- the instruction at a place
  pub get_or-instructions : (n at i : ℕ) → i < n
      → get_or (instructions_at locks variables s n at) i End ≡ decoded_instruction (decode_at locks variables s (at + 4 * i))
  get_or-instructions n at i h =
      rw (instructions_items n at) (get_or-items (λ p. decoded_instruction (decode_at locks variables s p)) 4 n at i End h)

  -- a code section for each thread
  pub length-codes : (n at : ℕ) → length (codes_at locks variables s n at) ≡ n
  unfolding codes_at
  length-codes zero at = refl
  length-codes (suc n) at = ap suc (length-codes n (at + 2 + 4 * (pair_at s at / 4)))

module _ (locks threads : ℕ) (s : List ℕ) where
  variables_items : (n at : ℕ) → variables_at locks threads s n at ≡ items (variable_at locks threads s) 6 n at
  unfolding variables_at
  variables_items zero at = refl
  variables_items (suc n) at = rw (variables_items n (at + 6))

  -- as many records as counted
  pub length-variables : (n at : ℕ) → length (variables_at locks threads s n at) ≡ n
  length-variables n at = rw (variables_items n at) (length-items _ 6 n at)

  -- the record of a variable
  pub get_or-variables : (n at i : ℕ) (d : Variable) → i < n
      → get_or (variables_at locks threads s n at) i d ≡ variable_at locks threads s (at + 6 * i)
  get_or-variables n at i d h = rw (variables_items n at) (get_or-items (variable_at locks threads s) 6 n at i d h)
