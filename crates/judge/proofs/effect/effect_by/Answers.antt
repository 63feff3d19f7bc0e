-- `effect_by` meets its contract: the lock that is asked for is below the limit, or in no set. Assumes nothing.
use Rattle.std.proofs.Common.{arith}
use Rattle.judge.proofs.AccessRules.{beyond_refused}
use Rattle.judge.proofs.effect.effect_by.Goals as goal

pub returns-then-from-ge-LOCK_LIMIT : goal.returns-then-from-ge-LOCK_LIMIT
returns-then-from-ge-LOCK_LIMIT c s l code tables below =
    beyond_refused s l code _ _ tables c.args.d c.args.locks (omega arith) c.args.i below
    (rw (c.from.ensures, c.lock_of.ensures, c.asked_by.ensures) at c.if-from-ge-LOCK_LIMIT.true)

pub effect_below-requires : goal.effect_below-requires
effect_below-requires c = (c.requires, rw (c.from.ensures, c.lock_of.ensures, c.asked_by.ensures) at c.if-from-ge-LOCK_LIMIT.false)
