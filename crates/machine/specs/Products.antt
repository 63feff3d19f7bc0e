-- The tables of the standard's "Signed hundredths", a row each: signed values of registers b and c, and what the definitions compute.
use Rattle.std.specs.Prelude.{ℕ, List, [], ◌∷◌, ℤ, pos, neg_ℤ}
use Rattle.machine.specs.Signed.{least, greatest}

-- b, c, MULH of them, register a
pub record Product : Type 0 where
  pub b : ℤ
  pub c : ℤ
  pub hundredth : ℤ
  pub register : ℕ

abbrev product : (b c hundredth : ℤ) (register : ℕ) → Product
product b c hundredth register = record { b = b; c = c; hundredth = hundredth; register = register }

abbrev minus : ℕ → ℤ
minus n = neg_ℤ (pos n)

unfoldable pub products : List Product
products =
    product (pos 150) (pos 150) (pos 225) 225
    ∷ product (minus 1) (pos 50) (minus 1) 4294967295
    ∷ product (minus 1) (pos 49) (pos 0) 0
    ∷ product (pos 1) (pos 50) (pos 1) 1
    ∷ product (pos 1) (pos 49) (pos 0) 0
    ∷ product (pos 1) (pos 99) (pos 1) 1
    ∷ product (minus 50) (minus 3) (pos 2) 2
    ∷ product (minus 250) (pos 100) (minus 250) 4294967046
    ∷ product greatest (pos 100) greatest 2147483647
    ∷ product least (pos 100) least 2147483648
    ∷ product greatest (pos 101) greatest 2147483647
    ∷ product least (minus 100) greatest 2147483647
    ∷ product (minus 12750) (pos 16843009) least 2147483648
    ∷ product least (pos 101) least 2147483648
    ∷ product least greatest least 2147483648
    ∷ product least least greatest 2147483647
    ∷ []

-- b, c, LESSS and LESS of them
pub record Comparison : Type 0 where
  pub b : ℤ
  pub c : ℤ
  pub signed : ℕ
  pub unsigned : ℕ

abbrev comparison : (b c : ℤ) (signed unsigned : ℕ) → Comparison
comparison b c signed unsigned = record { b = b; c = c; signed = signed; unsigned = unsigned }

unfoldable pub comparisons : List Comparison
comparisons =
    comparison (pos 0) (pos 0) 0 0
    ∷ comparison (pos 1) (pos 2) 1 1
    ∷ comparison (minus 1) (pos 0) 1 0
    ∷ comparison (pos 0) (minus 1) 0 1
    ∷ comparison (minus 2) (minus 1) 1 1
    ∷ comparison (minus 1) (minus 1) 0 0
    ∷ comparison least greatest 1 0
    ∷ comparison greatest least 0 1
    ∷ []
