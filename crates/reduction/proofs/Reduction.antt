-- The reduction theorem, and what an instance reads off it. Assumes nothing.
--     reduction             a trace that begins and ends with everybody outside can be made uninterrupted
--     uninterrupted_trace   an uninterrupted trace is a trace
--     same_precedence       a block that is over when another begins still is
use Rattle.std.proofs.Common.{◌≡◌, List}
use Rattle.reduction.specs.Moves.{Moves, Movers}
use Rattle.reduction.specs.Reduction.{Trace, trace_nil, trace_cons, Quiescent, Uninterrupted, alone_nil, alone_cons, Precedes, Reduced}
use Rattle.reduction.proofs.Sequence.{pairs_of}
use Rattle.reduction.proofs.Permuted.{permuted_order, permuted_moves}
use Rattle.reduction.proofs.Serial.{serialize, serial_uninterrupted}

module _ (M : Moves) where
  open M use {State, Move, Block}

  -- a trace that begins and ends with everybody outside can be made uninterrupted
  pub reduction : Movers M → {s v : State} {l : List Move} → Trace M s l v → Quiescent M s → Quiescent M v → Reduced M s l v
  reduction L {l} r first last =
      let (k, q, f) = serialize M L r last in
      let p = f (λ a b. Unit {0}) (pairs_of l (λ x y. tt)) in
      record {
        moves = k;
        uninterrupted = serial_uninterrupted M L q first;
        same_moves = λ t. permuted_moves M t p;
        same_order = λ R a. permuted_order M (f R a) a;
      }

  -- an uninterrupted trace is a trace
  pub uninterrupted_trace : {s v : State} {l : List Move} → Uninterrupted M s l v → Trace M s l v
  uninterrupted_trace alone_nil = trace_nil
  uninterrupted_trace (alone_cons a h r) = trace_cons h (uninterrupted_trace r)

  module _ {s v : State} {l : List Move} (r : Reduced M s l v) where
    -- a block that is over when another begins still is
    pub same_precedence : (a b : Block) → Precedes M a b l → Precedes M a b r.moves
    same_precedence a b = r.same_order (λ x y. ¬ ((x ≡ b) × (y ≡ a)))
