-- A list read place by place, and a property of a stretch of places. Only the proof of demand 3 speaks of it.
use Rattle.std.specs.Prelude.{ℕ, ◌+◌, ◌≤◌, ◌<◌, ◌≡◌, List, length, get_or}

-- from place w on, the function gives the list; d stands behind it
pub record Reads {A : Type 0} (d : A) (h : ℕ → A) (w : ℕ) (l : List A) : Type 0 where
  pub reads : (q : ℕ) → q < length l → h (w + q) ≡ get_or l q d

-- a property of the places from w to before v
abbrev pub Span : (ℕ → Type 0) → ℕ → ℕ → Type 0
Span P w v = (q : ℕ) → w ≤ q → q < v → P q
