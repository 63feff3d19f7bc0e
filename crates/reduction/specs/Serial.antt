-- What the proof of reduction speaks of, and its statement does not: lists that swaps of neighbours lead to (`Permuted`), and
-- traces in which each thread that begins or goes on with a block finishes it before another moves (`Serial`).
use Rattle.std.specs.Prelude.{ℕ, ◌≡◌, ◌≢◌, List, [], ◌∷◌, ◌++◌}
use Rattle.reduction.specs.Moves.{Moves, outside}
use Rattle.reduction.specs.Reduction.{Ordered}

module _ (M : Moves) where
  open M use {State, Move, Block, thread, block, step, status}

  -- `Permuted R l k`: from l to k by swaps of neighbours, moves of two threads whose blocks are R in their new order
  pub data Permuted (R : Block → Block → Type 0) : List Move → List Move → Type 0 where
    unswapped : {l : List Move} → Permuted R l l
    swap : {x y : Move} {l : List Move} → thread x ≢ thread y → R (block y) (block x) → Permuted R (x ∷ y ∷ l) (y ∷ x ∷ l)
    prep : {x : Move} {l k : List Move} → Permuted R l k → Permuted R (x ∷ l) (x ∷ k)
    trans : {l k j : List Move} → Permuted R l k → Permuted R k j → Permuted R l j

  -- `Rest t s l v`: from s thread t moves alone, by l, until it is outside, in v
  pub data Rest : ℕ → State → List Move → State → Type 0 where
    rest_nil : {t : ℕ} {s : State} → status s t ≡ outside → Rest t s [] s
    rest_cons : {s u v : State} {m : Move} {l : List Move} →
        status s (thread m) ≢ outside → step s m u → Rest (thread m) u l v → Rest (thread m) s (m ∷ l) v

  -- `Serial s l v`: a trace that goes by blocks, each a move and the rest of its thread
  pub data Serial : State → List Move → State → Type 0 where
    serial_nil : {s : State} → Serial s [] s
    serial_cons : {s u v w : State} {m : Move} {c l : List Move} →
        step s m u → Rest (thread m) u c v → Serial v l w → Serial s (m ∷ (c ++ l)) w

  -- a serial trace that allowed swaps of l lead to
  abbrev pub MadeSerial : State → List Move → State → Type 1
  MadeSerial s l v = (k : List Move) × Serial s k v × ((R : Block → Block → Type 0) → Ordered M R l → Permuted R l k)
