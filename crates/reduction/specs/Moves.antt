-- The interface that reduction asks for: threads that move in turn, each outside every block or inside one, before or after
-- its commit (`Moves`), and the laws of left and right movers (`Movers`).
use Rattle.std.specs.Prelude.{ℕ, ◌≡◌, ◌≢◌}

-- where a thread stands: outside every block, or inside one, before or after its commit
pub data Status : Type 0 where
  outside before_commit after_commit : Status

pub record Moves : Type 1 where
  pub State : Type 0
  pub Move : Type 0
  pub Block : Type 0
  -- who moves, and the block that the move belongs to: a move outside every block is a block of one
  pub thread : Move → ℕ
  pub block : Move → Block
  -- `step s m u`: the move m leads from s to u
  pub step : State → Move → State → Type 0
  -- where a thread stands, and in which block: of a thread that is outside, `block_at` says nothing
  pub status : State → ℕ → Status
  pub block_at : State → ℕ → Block

module _ (M : Moves) where
  open M use {State, Move, thread, block, step, status, block_at}

  -- thread t stands in u as it does in s
  abbrev pub Unmoved : ℕ → State → State → Type 0
  Unmoved t s u = (status u t ≡ status s t) × (block_at u t ≡ block_at s t)

  -- from s to v, x and then y can be done as y and then x
  abbrev pub Swappable : State → Move → Move → State → Type 0
  Swappable s x y v = (w : State) × step s y w × step w x v

  pub record Movers : Type 0 where
    -- a move leaves the other threads where they stand
    pub others : {s u : State} {m : Move} {t : ℕ} → step s m u → t ≢ thread m → Unmoved t s u
    -- a move from inside a block belongs to that block, and a move that ends inside a block to that one
    pub starts_in : {s u : State} {m : Move} → step s m u → status s (thread m) ≢ outside → block m ≡ block_at s (thread m)
    pub ends_in : {s u : State} {m : Move} → step s m u → status u (thread m) ≢ outside → block_at u (thread m) ≡ block m
    -- no move leads from after the commit to before it
    pub committed : {s u : State} {m : Move} →
        step s m u → status s (thread m) ≡ after_commit → status u (thread m) ≢ before_commit
    -- a move that ends before the commit is a right mover
    pub right_mover : {s u v : State} {x y : Move} →
        step s x u → step u y v → thread x ≢ thread y → status u (thread x) ≡ before_commit → Swappable s x y v
    -- a move that starts after the commit is a left mover
    pub left_mover : {s u v : State} {x y : Move} →
        step s x u → step u y v → thread y ≢ thread x → status s (thread y) ≡ after_commit → Swappable s x y v
