-- Laws of lock sets, a bit for each lock. Assumes nothing.
--     same_eq                    sets that compare as equal are equal
--     same_self                  a set compares as equal to itself
--     empty_holds                the empty set holds nothing
--     none_above                 nor does a set of n bits hold a lock from n on
--     with_self, with_other      what a set holds after a lock that it did not hold was added
--     without_self, without_other
--                                ... after one that it held was taken out
--     shifted                    1 shifted to a lock's bit
--     with_below, without_above  the bits of such a set stay within their number
use Rattle.std.proofs.Common.{ℕ, ◌+◌, ◌-◌, ◌*◌, ◌%◌, ◌^◌, ◌≤◌, ◌<◌, ◌≡◌, refl, ◌∙◌, ap, ◌≢◌, true, false, one-mul, arith, eqb, shl_exact, eqb-true, eq-eqb, ne_eqb}
use Rattle.std.proofs.lemmas.Nat.{pow_below, xor_lt}
use Rattle.std.proofs.lemmas.Nat.Bits.{and_pow, bit_at_above, bit_at-lt, bit_at-pow_other, bit_at-pow_same, bit_at-zero, bit_at_xor}
use Rattle.std.specs.Int.{bit_at}
use Rattle.std.specs.Int.Bits.{bit_xor, xor_add_and}
use borrow.Author.Tests.{eqb-false}
use Rattle.judge.specs.LockSet.{empty, holds, same, with_lock, without_lock}
use Rattle.judge.specs.declared.lock_set.LockSet.{LockSet}

-- ---- equality

pub same_eq : (s t : LockSet) → same s t ≡ true → s ≡ t
unfolding same
same_eq s t e = λ i. record { bits = eqb-true s.bits t.bits e i }

pub same_self : (s : LockSet) → same s s ≡ true
unfolding same
same_self s = eq-eqb s.bits s.bits refl

-- ---- one bit of a number

-- 1 shifted to bit k
pub shifted : (k : ℕ) → k < 16 → 1 * 2 ^ k % 65536 ≡ 2 ^ k
shifted k h = shl_exact 1 k 16 (omega arith) (omega arith) ∙ one-mul (2 ^ k)

-- the other bits stay where bit k is changed
xor_other : (x k j : ℕ) → j ≢ k → bit_at (bit_xor x (2 ^ k)) j ≡ bit_at x j
xor_other x k j n = rw (bit_at_xor x (2 ^ k) j, bit_at-pow_other k j n) (omega (arith, bit_at-lt x j))

-- ---- lock sets

pub empty_holds : (k : ℕ) → holds empty k ≡ false
unfolding empty holds
empty_holds k = ne_eqb (bit_at 0 k) 1 (λ e. absurd (omega (arith, bit_at-zero k)))

pub none_above : (s : LockSet) (n k : ℕ) → s.bits < 2 ^ n → n ≤ k → holds s k ≡ false
unfolding holds
none_above s n k small above = ne_eqb (bit_at s.bits k) 1 (λ e. absurd (omega (arith, bit_at_above s.bits n k small above)))

-- the bit of a lock that is in a set, and of one that is not
held_bit : (s : LockSet) (k : ℕ) → holds s k ≡ true → bit_at s.bits k ≡ 1
unfolding holds
held_bit s k e = eqb-true (bit_at s.bits k) 1 e

unheld_bit : (s : LockSet) (k : ℕ) → holds s k ≡ false → bit_at s.bits k ≡ 0
unfolding holds
unheld_bit s k e = omega (arith, bit_at-lt s.bits k, eqb-false (bit_at s.bits k) 1 e)

module _ (s : LockSet) (k : ℕ) (unheld : holds s k ≡ false) where
  with_is : s.bits + 2 ^ k ≡ bit_xor s.bits (2 ^ k)
  with_is =
      let both = rw (and_pow s.bits k, unheld_bit s k unheld) at (xor_add_and s.bits (2 ^ k)) in
      omega (arith, both)

  pub with_self : holds (with_lock s k) k ≡ true
  unfolding holds with_lock
  with_self =
      eq-eqb (bit_at (s.bits + 2 ^ k) k) 1 (omega (arith, unheld_bit s k unheld, ap (λ (x : ℕ). bit_at x k) with_is, bit_at_xor s.bits (2 ^ k) k, bit_at-pow_same k))

  pub with_other : (j : ℕ) → j ≢ k → holds (with_lock s k) j ≡ holds s j
  unfolding holds with_lock
  with_other j n = ap (λ (b : ℕ). eqb b 1) (ap (λ (x : ℕ). bit_at x j) with_is ∙ xor_other s.bits k j n)

  pub with_below : (n : ℕ) → k < n → s.bits < 2 ^ n → s.bits + 2 ^ k < 2 ^ n
  with_below n h b = rw with_is (xor_lt n s.bits (2 ^ k) b (pow_below k n h))

module _ (s : LockSet) (k : ℕ) (held : holds s k ≡ true) where
  both_are : bit_xor s.bits (2 ^ k) + 2 ^ k * 2 ≡ s.bits + 2 ^ k
  both_are = rw (and_pow s.bits k, held_bit s k held, one-mul (2 ^ k)) at (xor_add_and s.bits (2 ^ k))

  pub without_above : 2 ^ k ≤ s.bits
  without_above = omega (arith, both_are)

  without_is : s.bits - 2 ^ k ≡ bit_xor s.bits (2 ^ k)
  without_is = omega (arith, both_are)

  pub without_self : holds (without_lock s k) k ≡ false
  unfolding holds without_lock
  without_self =
      ne_eqb (bit_at (s.bits - 2 ^ k) k) 1 (λ e. absurd (omega (arith, held_bit s k held, ap (λ (x : ℕ). bit_at x k) without_is, bit_at_xor s.bits (2 ^ k) k, bit_at-pow_same k)))

  pub without_other : (j : ℕ) → j ≢ k → holds (without_lock s k) j ≡ holds s j
  unfolding holds without_lock
  without_other j n = ap (λ (b : ℕ). eqb b 1) (ap (λ (x : ℕ). bit_at x j) without_is ∙ xor_other s.bits k j n)
