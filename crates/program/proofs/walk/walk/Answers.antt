-- `walk`: both searches and the marks from this place on are the whole ones. Assumes nothing.
use Prim.Native.Nat.{ℕ, ◌+◌, ◌*◌}
use mathlib.Core.Path.{◌≡◌, sym, ap, ◌∙◌}
use mathlib.Core.Bool.{true, not}
use borrow.Author.Tests.{eq-eqb, ne_eqb}
use lib.Dec.{eqb}
use native.Mathlib.Omega.{arith}
use Rattle.std.specs.Prelude.{Err}
use Rattle.program.specs.Instruction.{is_valid, decode_at}
use Rattle.program.proofs.Marks.{row_variable}
use Rattle.program.proofs.Scan.{unnamed_there}
use Rattle.program.proofs.Walking.{ends_invalid, changed_broken, plain_broken, walking_changed, walking_plain, walking_nested, walking_open}
use Rattle.program.proofs.walk.walk.Goals.{Else-not-allows_at}
use Rattle.program.proofs.walk.walk.Goals as goal

here : (place p m : ℕ) → place ≡ m → eqb place p ≡ eqb m p
here place p m e = ap (λ (w : ℕ). eqb w p) e

-- the instruction at hand is valid
valid_there : (u : Else-not-allows_at) → is_valid (decode_at u.args.limits.now.locks u.args.limits.now.variables u.args.s.now (u.args.start + 4 * u.loop-p.p)) ≡ true
valid_there u = sym u.allows_at.ensures ∙ u.if-not-allows_at.false

pub returns-then-not-allows_at-clause-result : goal.returns-then-not-allows_at-clause-result
returns-then-not-allows_at-clause-result c =
    ends_invalid _ _ _ _ _ _ _ _ _ _ c.loop-p.invariant.0 c.loop-p-test.true (sym c.allows_at.ensures ∙ c.if-not-allows_at.true)

pub returns-in_default-clause-result : goal.returns-in_default-clause-result
returns-in_default-clause-result c =
    let valid = valid_there ((goal.at.returns-in_default-clause-result c).Else-not-allows_at) in
    ap Err c.broken.ensures
    ∙ changed_broken _ _ _ _ _ _ _ _ _ _ c.loop-p.invariant.0 c.loop-p-test.true valid c.of-row.result c.of-row.ensures (sym c.is_nesting.ensures ∙ c.if-is_nesting.true) c.distance.result c.distance.ensures.0
    c.change_at.result (c.change_at.ensures _ _ c.loop-p-test.true (here c.loop-p.place c.loop-p.p _ c.loop-p.invariant.1)) c.in_default.is

pub make-requires : goal.make-requires
make-requires c = rw c.in-Some.is at (c.change_at.ensures 0 _ c.loop-p-test.true (here c.loop-p.place c.loop-p.p _ c.loop-p.invariant.1)).room

pub returns-then-place-p-clause-result : goal.returns-then-place-p-clause-result
returns-then-place-p-clause-result c =
    let valid = valid_there ((goal.at.returns-then-place-p-clause-result c).Else-not-allows_at) in
    ap Err c.broken-then-place-p.ensures
    ∙ plain_broken _ _ _ _ _ _ _ _ _ _ c.loop-p.invariant.0 c.loop-p-test.true valid c.of-row.result c.of-row.ensures (sym c.is_nesting.ensures ∙ c.if-is_nesting.false)
    (unnamed_there _ _ _ _ c.loop-p-test.true c.loop-p.invariant.1 ∙ ap not (eq-eqb _ _ c.if-place-p.true))

-- `mark(row, s[at + 2], bit, &mut *writers)`
pub mark-requires : goal.mark-requires
unfolding decode_at
mark-requires c =
    λ e.
    let h = row_variable _ _ _ _ _ _ (valid_there ((goal.at.mark-requires c).Else-not-allows_at)) (sym c.of-row.ensures ∙ e) in
    omega (arith, c.requires.0)

pub loop-p-preserved : goal.loop-p-preserved
loop-p-preserved c =
    let valid = valid_there ((goal.at.loop-p-preserved c).Else-not-allows_at) in
    elim c.if-is_nesting.branch [
      | goal.then-is_nesting+in-Some w ↦ (
        rw w.writers-is (walking_changed _ _ _ _ _ _ _ _ _ _ c.loop-p.invariant.0 c.loop-p-test.true valid c.of-row.result c.of-row.ensures (sym c.is_nesting.ensures ∙ w.if-is_nesting.true)
            w.distance.result w.distance.ensures.0 w.change_at.result w.in-Some.change
            (w.change_at.ensures _ _ c.loop-p-test.true (here c.loop-p.place c.loop-p.p _ c.loop-p.invariant.1)) w.in-Some.is _ (w.entries-is ∙ w.make.ensures)),
        w.place-is ∙ rw w.entries-is w.innermost_place-place.ensures,
      )
      | goal.else-is_nesting+else-place-p w ↦ rw (w.entries-is, w.place-is) (
        (walking_plain _ _ _ _ _ _ _ _ _ _ c.loop-p.invariant.0 c.loop-p-test.true valid c.of-row.result c.of-row.ensures (sym c.is_nesting.ensures ∙ w.if-is_nesting.false)
            (unnamed_there _ _ _ _ c.loop-p-test.true c.loop-p.invariant.1 ∙ ap not (ne_eqb _ _ w.if-place-p.false)) _ (w.writers-is ∙ w.mark.ensures)),
        c.loop-p.invariant.1,
      )
    ]

pub returns-in-None-clause-result : goal.returns-in-None-clause-result
returns-in-None-clause-result c = (walking_nested _ _ _ _ _ _ _ _ _ _ c.loop-p.invariant.0 c.loop-p-test.false (sym c.top.ensures ∙ c.in-None.is)).0

pub returns-in-None-clause-marked : goal.returns-in-None-clause-marked
returns-in-None-clause-marked c = (walking_nested _ _ _ _ _ _ _ _ _ _ c.loop-p.invariant.0 c.loop-p-test.false (sym c.top.ensures ∙ c.in-None.is)).1

pub returns-in-Some-top-clause-result : goal.returns-in-Some-top-clause-result
returns-in-Some-top-clause-result c = walking_open _ _ _ _ _ _ _ _ _ _ c.loop-p.invariant.0 c.loop-p-test.false _ (sym c.top.ensures ∙ c.in-Some-top.is) c.loop-p.auto.p-end
