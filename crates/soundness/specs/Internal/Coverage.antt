-- Rows whose labels say where the blocks are. Only the proof of demand 3 speaks of it.
use Rattle.std.specs.Prelude.{ℕ, ◌+◌, ◌≤◌, ◌<◌, ◌≡◌, Bool, false, ◌||◌, List, map, length, get_or}
use Rattle.machine.specs.Block.{covered_from}
use Rattle.soundness.specs.Internal.Labelled.{Row}

-- written from any place on, inside a block or not, the rows cover no place behind them, and of each of their places its label says
-- whether it is inside one
pub record Says {L : Type 0} (is_inside : L → Bool) (inside : Bool) (l : List (Row L)) : Type 0 where
  pub past : (w q : ℕ) → w + length l ≤ q → covered_from w (map (λ (r : Row L). r.instruction) l) q ≡ false
  pub agrees : (w : ℕ) (d : Row L) (q : ℕ) → q < length l
      → (inside || covered_from w (map (λ (r : Row L). r.instruction) l) (w + q)) ≡ is_inside (get_or l q d).label
