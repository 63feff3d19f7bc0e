-- What MULH and LESSS compute (the standard, "Signed hundredths").
use Rattle.std.specs.Prelude.{◌≡◌, ℕ, ◌+◌, ◌-◌, ◌*◌, ◌/◌, ◌^◌, ◌≤◌, nat_lt, ℤ, pos, ◌+ℤ◌, ◌-ℤ◌, ◌*ℤ◌, neg_ℤ, unsigned_abs, int_lt}
use Rattle.program.specs.Choice.{choose}

-- "a register's signed value is the register where that is below 2^31, and the register minus 2^32 where it is not"
unfoldable pub signed_value : ℕ → ℤ
signed_value x = choose (nat_lt x (2 ^ 31)) (pos x) (pos x -ℤ pos (2 ^ 32))

-- "Back, a number of the span is put into a register as it is, or, if it is below zero, with 2^32 added". Of a number of the span that is a
-- number from 0 up, which unsigned_abs makes a ℕ
unfoldable pub register_of : ℤ → ℕ
register_of z = unsigned_abs (choose (int_lt z (pos 0)) (z +ℤ pos (2 ^ 32)) z)

-- "from -2^31 to 2^31 - 1, the signed span"
abbrev pub least : ℤ
least = neg_ℤ (pos (2 ^ 31))

abbrev pub greatest : ℤ
greatest = pos (2 ^ 31 - 1)

-- "add 50 to p without its sign, divide by 100, drop the remainder, and put the sign of p before it"
unfoldable pub rounded_hundredth : ℤ → ℤ
rounded_hundredth p =
    let q = (unsigned_abs p + 50) / 100 in
    choose (int_lt p (pos 0)) (neg_ℤ (pos q)) (pos q)

-- the same in other words (proofs/Nearest.antt nearest_exactly): "the whole number nearest to it, and of two that are equally near the one
-- that is farther from zero". q is half or less away from p / 100
pub record Nearest (p q : ℤ) : Type 0 where
  pub near : 2 * unsigned_abs (q *ℤ pos 100 -ℤ p) ≤ 100
  pub farther : 2 * unsigned_abs (q *ℤ pos 100 -ℤ p) ≡ 100 → unsigned_abs p ≤ unsigned_abs (q *ℤ pos 100)

-- "then -2^31 stands for what is below it and 2^31 - 1 for what is above"
unfoldable pub in_span : ℤ → ℤ
in_span z = choose (int_lt z least) least (choose (int_lt greatest z) greatest z)

-- "MULH multiplies the signed values of registers b and c and divides the product by 100"
unfoldable pub mulh : (b c : ℕ) → ℕ
mulh b c = register_of (in_span (rounded_hundredth (signed_value b *ℤ signed_value c)))

-- "LESSS gives 1 if the signed value of register b is below that of register c, else 0"
unfoldable pub lesss : (b c : ℕ) → ℕ
lesss b c = choose (int_lt (signed_value b) (signed_value c)) 1 0
