-- Texts as bytes (the standard, "Line and bench": "Raw fields come first, in capital hexadecimal; then names and decimal values").
use Rattle.std.specs.Prelude.{ℕ, zero, suc, ◌+◌, ◌/◌, ◌%◌, true, false, List, [], ◌∷◌, ◌++◌, ltb}
use Prim.Native.Char.{code}
use Prim.Native.String.{String}
use Prim.Native.String as string
use Rattle.program.specs.Choice.{choose}

-- a fixed text
unfoldable pub ascii : String → List ℕ
ascii string.[] = []
ascii (string.◌∷◌ c s) = code c ∷ ascii s

-- a byte, as two capital hexadecimal digits
unfoldable pub hex_digit : ℕ → ℕ
hex_digit d = choose (ltb d 10) (48 + d) (55 + d)

unfoldable pub hex : ℕ → List ℕ
hex b = hex_digit (b / 16) ∷ hex_digit (b % 16) ∷ []

-- a number in decimal, of at most k digits
unfoldable pub digits : ℕ → ℕ → List ℕ
digits zero n = []
digits (suc k) n = elim (ltb n 10) [
  | false ↦ digits k (n / 10) ++ (48 + n % 10) ∷ []
  | true ↦ (48 + n) ∷ []
]

unfoldable pub decimal : ℕ → List ℕ
decimal n = digits 20 n

-- words with one blank between them
unfoldable pub spaced : List (List ℕ) → List ℕ
spaced [] = []
spaced (w ∷ []) = w
spaced (w ∷ (v ∷ vs)) = w ++ ascii " " ++ spaced (v ∷ vs)

-- a line, "newline included"
unfoldable pub line_of : List (List ℕ) → List ℕ
line_of words = spaced words ++ 10 ∷ []
