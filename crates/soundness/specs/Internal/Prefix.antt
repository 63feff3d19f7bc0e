-- Where a place stands in its thread's code: outside every block, or inside an outermost block, of which what comes before the place
-- has some atomicity (the prefix). Only the proof of demand 3 speaks of it.
--     Prefix, status_of, is_inner   a prefix; what it counts as, and whether it is inside a block
--     behind, entered               the prefix behind code, and behind an ATOMIC
--     Below, Proper                 the order of prefixes; not T
--     Goes                          what a move may lead from and to
use Rattle.std.specs.Prelude.{◌≢◌, Bool, true, false, T}
use Rattle.atomicity.specs.Atomicity.{composition, at_most}
use Rattle.atomicity.specs.declared.Atomicity.{Atomicity}
use Rattle.atomicity.specs.declared.Atomicity.TheVariants.{Both, Left, Right, Top}
use Rattle.program.specs.Choice.{choose}
use Rattle.reduction.specs.Moves.{Status, outside, before_commit, after_commit}

pub data Prefix : Type 0 where
  outer : Prefix
  inner : (before : Atomicity) → Prefix

-- what the place counts as: `before_commit` is where all that comes before is a right mover
unfoldable pub status_of : Prefix → Status
status_of outer = outside
status_of (inner x) = choose (at_most x Right) before_commit after_commit

unfoldable pub is_inner : Prefix → Bool
is_inner outer = false
is_inner (inner x) = true

-- the prefix behind code of atomicity a
abbrev pub behind : Prefix → Atomicity → Prefix
behind outer a = outer
behind (inner x) a = inner (composition x a)

-- the prefix behind an ATOMIC: a nested block goes on with the outer one's
abbrev pub entered : Prefix → Prefix
entered outer = inner Both
entered (inner x) = inner x

-- the same outermost block, or none, and a prefix at or below the other
pub data Below : Prefix → Prefix → Type 0 where
  below_outer : Below outer outer
  below_inner : {x y : Atomicity} → T (at_most x y) → Below (inner x) (inner y)

-- no prefix of T
pub data Proper : Prefix → Type 0 where
  proper_outer : Proper outer
  proper_inner : {x : Atomicity} → x ≢ Top → Proper (inner x)

-- a move of atomicity a may lead from a place to another
pub data Goes (a : Atomicity) : Prefix → Prefix → Type 0 where
  stays : Goes a outer outer
  enters : {y : Atomicity} → T (at_most a y) → Goes a outer (inner y)
  leaves : {x : Atomicity} → T (at_most a Left) → Goes a (inner x) outer
  goes_on : {x y : Atomicity} → T (at_most (composition x a) y) → composition x a ≢ Top → Goes a (inner x) (inner y)
