-- `walk`: both searches and the marks from this place on are the whole ones. Assumes nothing.
use mathlib.Core.Path.{◌≡◌}
use Rattle.program.specs.Internal.Change.{innermost_place}
use Rattle.program.proofs.Walking.{Walking}
use Rattle.program.proofs.walk.walk.Given as goal

abbrev pub invariant-loop-p : goal.invariant-loop-p
invariant-loop-p l =
    Walking l.limits.locks l.limits.variables l.s l.start l.n l.bit l.initial.writers l.entries l.writers l.p
    × (l.place ≡ innermost_place l.n l.entries)
