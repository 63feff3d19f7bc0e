-- `of` meets its contract: both tables begin with the rule Free, whose lock is below the limit. Assumes nothing.
use Rattle.judge.proofs.AccessRules.{locks_start}
use Rattle.judge.proofs.access_rule.AccessRules.of.Goals as goal

pub returns-clause-read_locks : goal.returns-clause-read_locks
returns-clause-read_locks c = c.fill_rules.ensures.read_locks locks_start

pub returns-clause-write_locks : goal.returns-clause-write_locks
returns-clause-write_locks c = c.fill_rules.ensures.write_locks locks_start
