-- What reduction gives for a trace that begins and ends with everybody outside: an uninterrupted one between the same two
-- states, with the same moves of each thread, in which no two blocks come in a new order (`Reduced`).
use Rattle.std.specs.Prelude.{ℕ, ◌≡◌, ◌≢◌, List, [], ◌∷◌}
use mathlib.Core.List.{filter}
use Rattle.std.proofs.Math.Decide.{ℕ_discrete}
use Rattle.reduction.specs.Sequence.{AllPairs}
use Rattle.reduction.specs.Moves.{Moves, outside}

module _ (M : Moves) where
  open M use {State, Move, Block, thread, block, step, status}

  -- `Trace s l v`: the moves l, one after the other, lead from s to v
  pub data Trace : State → List Move → State → Type 0 where
    trace_nil : {s : State} → Trace s [] s
    trace_cons : {s u v : State} {m : Move} {l : List Move} → step s m u → Trace u l v → Trace s (m ∷ l) v

  -- everybody is outside
  abbrev pub Quiescent : State → Type 0
  Quiescent s = (t : ℕ) → status s t ≡ outside

  -- everybody but who makes the move is outside
  abbrev pub Alone : State → Move → Type 0
  Alone s m = (t : ℕ) → t ≢ thread m → status s t ≡ outside

  -- `Uninterrupted s l v`: a trace in which nobody moves while another stands inside a block
  pub data Uninterrupted : State → List Move → State → Type 0 where
    alone_nil : {s : State} → Uninterrupted s [] s
    alone_cons : {s u v : State} {m : Move} {l : List Move} →
        Alone s m → step s m u → Uninterrupted u l v → Uninterrupted s (m ∷ l) v

  -- the moves of thread t, in order
  abbrev pub moves_of : ℕ → List Move → List Move
  moves_of t = filter (λ m. ℕ_discrete (thread m) t)

  -- the block of each move is R to the block of each later one
  abbrev pub Ordered : (Block → Block → Type 0) → List Move → Type 0
  Ordered R = AllPairs (λ x y. R (block x) (block y))

  -- no move of b comes before one of a: block a is over when block b begins
  abbrev pub Precedes : Block → Block → List Move → Type 0
  Precedes a b = Ordered (λ x y. ¬ ((x ≡ b) × (y ≡ a)))

  pub record Reduced (s : State) (l : List Move) (v : State) : Type 1 where
    pub moves : List Move
    pub uninterrupted : Uninterrupted s moves v
    -- each thread makes the same moves in the same order
    pub same_moves : (t : ℕ) → moves_of t moves ≡ moves_of t l
    -- what holds of each earlier and later block still does
    pub same_order : (R : Block → Block → Type 0) → Ordered R l → Ordered R moves
