-- `turn_at` meets its contract: the innermost entry, and whether there is room, by the depth. Assumes nothing.
use mathlib.Core.Path.{◌∙◌}
use borrow.Author.Tests.{ne_eqb}
use native.Mathlib.Omega.{arith}
use Rattle.program.specs.Nesting.{nest}
use Rattle.program.proofs.Innermost.{innermost_here, innermost_top, room_by_depth}
use Rattle.program.proofs.nesting.turn_at.Goals as goal

pub returns-in-10 : goal.returns-in-10
unfolding nest
returns-in-10 c a es inner d = rw c.in-10.is (c.at_opener.ensures _ es (omega arith) (innermost_here inner) (room_by_depth es _ d))

pub returns-in-11 : goal.returns-in-11
unfolding nest
returns-in-11 c a es inner d = rw c.in-11.is (c.at_else.ensures _ es (omega arith) (innermost_here inner) (c.then_some-top.ensures ∙ innermost_top inner _ d))

pub returns-in-12 : goal.returns-in-12
unfolding nest
returns-in-12 c a es inner d = rw c.in-12.is (c.at_opener-in-12.ensures _ es (omega arith) (innermost_here inner) (room_by_depth es _ d))

pub returns-in-13 : goal.returns-in-13
unfolding nest
returns-in-13 c a es inner d = rw c.in-13.is (c.at_again.ensures _ _ es (omega arith) (innermost_here inner) (c.then_some-top.ensures ∙ innermost_top inner _ d))

pub returns-in-14 : goal.returns-in-14
unfolding nest
returns-in-14 c a es inner d = rw c.in-14.is (c.at_opener-in-14.ensures _ es (omega arith) (innermost_here inner) (room_by_depth es _ d))

pub returns-in_default : goal.returns-in_default
unfolding nest
returns-in_default c a es inner d =
    let r = c.in_default.in_default-own.rest in
    rw (ne_eqb _ 10 r.0.0.0.0.1, ne_eqb _ 11 r.0.0.0.1, ne_eqb _ 12 r.0.0.1, ne_eqb _ 13 r.0.1, ne_eqb _ 14 r.1)
    (c.at_end.ensures _ _ es (omega arith) (innermost_here inner) (c.then_some-top.ensures ∙ innermost_top inner _ d))
