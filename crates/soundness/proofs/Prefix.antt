-- Laws of prefixes. Assumes nothing.
--     behind_both, behind_behind                 the prefix behind nothing, and behind two codes
--     below_refl, below_behind                   a prefix is below itself, and only grows
--     below_first, below_second, below_turn      either part of a choice is below the choice, one turn more below the loop
--     proper_below, proper_entered               what is not T
--     goes_behind, goes_in, goes_out             a move straight on, into a block, out of it
--     before_right, after_not_right              before the commit at or below R, after it not
--     goes_right, goes_left, goes_committed      what the ends of a move say of its mover
--     outside_outer, outer_outside,              standing outside, as a status and as a prefix
--     not_outside_inner
--     inner_behind, inner_entered                the block behind code, and behind an ATOMIC
use Rattle.std.proofs.Common.{◌≡◌, refl, sym, ap, subst, ◌≢◌, Bool, true, false, T}
use Rattle.atomicity.proofs.Laws.{then_assoc, then_both, both_then, then_mono_right, then_above, not_top_below, order_refl, order_trans, join_left, join_right, loop_again, right_before, right_after, left_after}
use Rattle.atomicity.specs.Atomicity.{composition, join, closure, at_most}
use Rattle.atomicity.specs.declared.Atomicity.{Atomicity}
use Rattle.atomicity.specs.declared.Atomicity.TheVariants.{Both, Left, Right, Top}
use Rattle.program.proofs.Differ.{differ}
use Rattle.program.specs.Choice.{choose}
use Rattle.reduction.specs.Moves.{outside, before_commit, after_commit}
use Rattle.soundness.specs.Internal.Prefix.{Prefix, outer, inner, status_of, is_inner, behind, entered, Below, below_outer, below_inner, Proper, proper_outer, proper_inner, Goes, stays, enters, leaves, goes_on}

-- ---- prefixes

pub behind_both : (m : Prefix) → behind m Both ≡ m
behind_both outer = refl
behind_both (inner x) = ap inner (then_both x)

pub behind_behind : (m : Prefix) (a b : Atomicity) → behind (behind m a) b ≡ behind m (composition a b)
behind_behind outer a b = refl
behind_behind (inner x) a b = ap inner (then_assoc x a b)

pub below_refl : (m : Prefix) → Below m m
below_refl outer = below_outer
below_refl (inner x) = below_inner (order_refl x)

-- a prefix only grows
pub below_behind : (m : Prefix) (a : Atomicity) → Below m (behind m a)
below_behind outer a = below_outer
below_behind (inner x) a = below_inner (then_above x a)

-- either part of a choice is at or below the choice
pub below_first : (m : Prefix) (a b : Atomicity) → Below (behind m a) (behind m (join a b))
below_first outer a b = below_outer
below_first (inner x) a b = below_inner (then_mono_right a (join a b) x (join_left a b))

pub below_second : (m : Prefix) (a b : Atomicity) → Below (behind m b) (behind m (join a b))
below_second outer a b = below_outer
below_second (inner x) a b = below_inner (then_mono_right b (join a b) x (join_right a b))

-- one turn more stays within the loop
pub below_turn : (m : Prefix) (a : Atomicity) → Below (behind (behind m (closure a)) a) (behind m (closure a))
below_turn outer a = below_outer
below_turn (inner x) a = below_inner (loop_again x a)

pub proper_below : {m n : Prefix} → Below m n → Proper n → Proper m
proper_below below_outer proper_outer = proper_outer
proper_below (below_inner {x} {y} h) (proper_inner k) = proper_inner (not_top_below x y h k)

-- so is the prefix at a block's END
pub proper_entered : (m : Prefix) (a : Atomicity) → a ≢ Top → Proper (behind m a) → Proper (behind (entered m) a)
proper_entered outer a n h = proper_inner (subst (λ (x : Atomicity). x ≢ Top) (sym (both_then a)) n)
proper_entered (inner x) a n h = h

-- ---- moves

-- straight on
pub goes_behind : {a : Atomicity} {n : Prefix} (m : Prefix) → Below (behind m a) n → Proper (behind m a) → Goes a m n
goes_behind outer below_outer h = stays
goes_behind (inner x) (below_inner l) (proper_inner h) = goes_on l h

-- into a block
pub goes_in : {n : Prefix} (m : Prefix) → Below (entered m) n → Proper m → Goes Both m n
goes_in outer (below_inner {y} l) h = enters l
goes_in (inner x) l h = goes_behind (inner x) (rw (behind_both (inner x)) l) (rw (behind_both (inner x)) h)

-- out of a block of atomicity a
pub goes_out : {n : Prefix} (m : Prefix) (a : Atomicity) → Below (behind m a) n → Proper (behind m a) → Goes Both (behind (entered m) a) n
unfolding at_most
goes_out outer a below_outer h = leaves tt
goes_out (inner x) a l h =
    goes_behind (inner (composition x a)) (rw (behind_both (inner (composition x a))) l) (rw (behind_both (inner (composition x a))) h)

-- ---- what the ends of a move say

outer_not_before : outside ≢ before_commit
outer_not_before e = differ cc

outer_not_after : outside ≢ after_commit
outer_not_after e = differ cc

-- before the commit: at or below R
pub before_right : (x : Atomicity) → status_of (inner x) ≡ before_commit → T (at_most x Right)
unfolding status_of
before_right x = by_test (at_most x Right)
  where
    by_test : (b : Bool) → choose b before_commit after_commit ≡ before_commit → T b
    by_test true e = tt
    by_test false e = differ cc

-- after the commit: not
pub after_not_right : (x : Atomicity) → status_of (inner x) ≡ after_commit → T (at_most x Right) → ⊥
unfolding status_of
after_not_right x = by_test (at_most x Right)
  where
    by_test : (b : Bool) → choose b before_commit after_commit ≡ after_commit → T b → ⊥
    by_test true e t = differ cc
    by_test false e t = t

-- a move that ends before the commit is a right mover
pub goes_right : {a : Atomicity} {m n : Prefix} → Goes a m n → status_of n ≡ before_commit → T (at_most a Right)
unfolding status_of
goes_right stays e = absurd (outer_not_before e)
goes_right {a} (enters {y} l) e = order_trans a y Right l (before_right y e)
goes_right (leaves l) e = absurd (outer_not_before e)
goes_right {a} (goes_on {x} {y} l k) e = right_after x a (order_trans (composition x a) y Right l (before_right y e))

-- a move that starts after the commit is a left mover
pub goes_left : {a : Atomicity} {m n : Prefix} → Goes a m n → status_of m ≡ after_commit → T (at_most a Left)
unfolding status_of
goes_left stays e = absurd (outer_not_after e)
goes_left (enters l) e = absurd (outer_not_after e)
goes_left (leaves l) e = l
goes_left {a} (goes_on {x} l k) e = left_after x a (after_not_right x e) k

-- no move leads from after the commit to before it
pub goes_committed : {a : Atomicity} {m n : Prefix} → Goes a m n → status_of m ≡ after_commit → status_of n ≢ before_commit
unfolding status_of
goes_committed stays e f = outer_not_after e
goes_committed (enters l) e f = outer_not_after e
goes_committed (leaves l) e f = outer_not_before f
goes_committed {a} (goes_on {x} {y} l k) e f =
    after_not_right x e (right_before x a (order_trans (composition x a) y Right l (before_right y f)))

-- inside a block, or not
pub outside_outer : (m : Prefix) → status_of m ≡ outside → is_inner m ≡ false
unfolding status_of is_inner
outside_outer outer e = refl
outside_outer (inner x) e = absurd (by_test (at_most x Right) e)
  where
    by_test : (b : Bool) → choose b before_commit after_commit ≡ outside → ⊥
    by_test true e = differ cc
    by_test false e = differ cc

pub outer_outside : (m : Prefix) → is_inner m ≡ false → status_of m ≡ outside
unfolding status_of is_inner
outer_outside outer e = refl
outer_outside (inner x) e = differ cc

pub not_outside_inner : (m : Prefix) → status_of m ≢ outside → is_inner m ≡ true
unfolding status_of is_inner
not_outside_inner outer n = absurd (n refl)
not_outside_inner (inner x) n = refl

-- code stays in its block, and an ATOMIC leads into one
pub inner_behind : (m : Prefix) (a : Atomicity) → is_inner (behind m a) ≡ is_inner m
unfolding is_inner
inner_behind outer a = refl
inner_behind (inner x) a = refl

pub inner_entered : (m : Prefix) → is_inner (entered m) ≡ true
unfolding is_inner
inner_entered outer = refl
inner_entered (inner x) = refl
