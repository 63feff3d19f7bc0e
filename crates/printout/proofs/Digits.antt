-- Laws of hexadecimal and decimal digits. Assumes nothing.
--     raw_more                      one raw byte more
--     digits_small, digits_large    the digits of a number of one digit; of more: the last digit after those of its tenth
--     decimal_length                how many digits a number below a power of ten has
--     decimal_small, decimal_large  a number in decimal, by its last digit
--     decimal_large_length          it has one digit more than its tenth
--     short_digits, byte_digits, word_digits, size_digits
--                                   how many digits a number below 100,000 has, a byte, a word, a number of 64 bits
use Rattle.std.proofs.Common.{◌≡◌, sym, ap, ◌∙◌, ◌⊎◌, inl, inr, ⊎_elim, List, [], ◌∷◌, ◌++◌, ℕ, zero, suc, ◌+◌, ◌/◌, ◌%◌, ◌^◌, ◌≤◌, ◌<◌, arith, pow-suc, length, get_or, take, drop, flat_map, length-append, length-drop, append-nil, take-suc, get_or-drop, lt-ltb, le-ltb}
use Rattle.std.proofs.lemmas.Grind.{flat_map-append}
use native.Mathlib.Omega.{not-le}
use native.Mathlib.Decide.{dec_le}
use Rattle.printout.specs.Text.{hex, digits, decimal}
use Rattle.printout.specs.Line.{raw}

-- Hexadecimal

-- one raw byte more
pub raw_more : (s : List ℕ) (from i : ℕ) → from + i < length s → raw s from (suc i) ≡ raw s from i ++ hex (get_or s (from + i) 0)
unfolding raw
raw_more s from i h =
    ap (flat_map hex) (take-suc (drop from s) i 0 (rw (length-drop from s) (omega arith)))
    ∙ flat_map-append hex (take i (drop from s)) (get_or (drop from s) i 0 ∷ [])
    ∙ ap (λ (z : ℕ). raw s from i ++ (hex z ++ [])) (get_or-drop from s i 0)
    ∙ ap (λ (z : List ℕ). raw s from i ++ z) (append-nil (hex (get_or s (from + i) 0)))

-- Decimal

-- a number of one digit
pub digits_small : (k n : ℕ) → n < 10 → digits (suc k) n ≡ (48 + n) ∷ []
unfolding digits
digits_small k n h = rw (lt-ltb n 10 h, digits)

-- a number of more: the last digit after those of its tenth
pub digits_large : (k n : ℕ) → 10 ≤ n → digits (suc k) n ≡ digits k (n / 10) ++ (48 + n % 10) ∷ []
unfolding digits
digits_large k n h = rw (le-ltb n 10 h, digits)

-- a number has one digit or more
small_or_large : (n : ℕ) → (n < 10) ⊎ (10 ≤ n)
small_or_large n = elim (dec_le 10 n) [
  | yes l ↦ inr l
  | no f ↦ inl (not-le 10 n f)
]

-- a number's tenth has a digit less
tenth_below : (k n : ℕ) → n < 10 ^ suc k → n / 10 < 10 ^ k
tenth_below k n h = omega (arith, pow-suc 10 k)

-- room for more digits than there are changes nothing
digits_room : (k n : ℕ) → n < 10 ^ suc k → digits (suc k) n ≡ digits (suc (suc k)) n
digits_room zero n h = digits_small 0 n (omega (arith, pow-suc 10 0)) ∙ sym (digits_small 1 n (omega (arith, pow-suc 10 0)))
digits_room (suc k) n h = ⊎_elim
    (λ s. digits_small (suc k) n s ∙ sym (digits_small (suc (suc k)) n s))
    (λ l. digits_large (suc k) n l ∙ ap (λ (z : List ℕ). z ++ (48 + n % 10) ∷ []) (digits_room k (n / 10) (tenth_below (suc k) n h)) ∙ sym (digits_large (suc (suc k)) n l))
    (small_or_large n)

-- how many there are
digits_length : (m k n : ℕ) → n < 10 ^ suc k → length (digits m n) ≤ suc k
unfolding digits
digits_length zero k n h = omega arith
digits_length (suc m) zero n h = rw (digits_small m n (omega (arith, pow-suc 10 0))) (omega arith)
digits_length (suc m) (suc k) n h = ⊎_elim
    (λ s. rw (digits_small m n s) (omega arith))
    (λ l. rw (digits_large m n l, length-append (digits m (n / 10)) ((48 + n % 10) ∷ [])) (omega (arith, digits_length m k (n / 10) (tenth_below (suc k) n h))))
    (small_or_large n)

pub decimal_length : (k n : ℕ) → n < 10 ^ suc k → length (decimal n) ≤ suc k
unfolding decimal
decimal_length k n h = digits_length 20 k n h

pub decimal_small : (n : ℕ) → n < 10 → decimal n ≡ (48 + n) ∷ []
unfolding decimal
decimal_small n h = digits_small 19 n h

pub decimal_large : (n : ℕ) → 10 ≤ n → n < 10 ^ 20 → decimal n ≡ decimal (n / 10) ++ (48 + n % 10) ∷ []
unfolding decimal
decimal_large n l h = digits_large 19 n l ∙ ap (λ (z : List ℕ). z ++ (48 + n % 10) ∷ []) (digits_room 18 (n / 10) (tenth_below 19 n h))

pub decimal_large_length : (n : ℕ) → 10 ≤ n → n < 10 ^ 20 → length (decimal n) ≡ length (decimal (n / 10)) + 1
decimal_large_length n l h = ap length (decimal_large n l h) ∙ length-append (decimal (n / 10)) ((48 + n % 10) ∷ [])

-- how many digits the numbers of each type have
pub short_digits : (n : ℕ) → n < 100000 → length (decimal n) ≤ 5
short_digits n h = decimal_length 4 n h

pub byte_digits : (n : ℕ) → n < 256 → length (decimal n) ≤ 3
byte_digits n h = decimal_length 2 n (omega arith)

pub word_digits : (n : ℕ) → n < 4294967296 → length (decimal n) ≤ 10
word_digits n h = decimal_length 9 n (omega arith)

pub size_digits : (n : ℕ) → n < 18446744073709551616 → length (decimal n) ≤ 20
size_digits n h = decimal_length 19 n (omega arith)
