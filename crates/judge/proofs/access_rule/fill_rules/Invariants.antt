-- `fill_rules`: the rules of the variables before v stand in both tables, and no lock at or above the limit came in. Assumes nothing.
use Rattle.judge.specs.Internal.Rule.{LocksBelow}
use Rattle.judge.proofs.AccessRules.{RulesFilled}
use Rattle.judge.proofs.access_rule.fill_rules.Given as goal

abbrev pub invariant-loop-v : goal.invariant-loop-v
invariant-loop-v l = record {
  filled : RulesFilled l.bytes l.layout l.code l.reads l.writes l.v;
  read_locks : LocksBelow l.initial.reads → LocksBelow l.reads;
  write_locks : LocksBelow l.initial.writes → LocksBelow l.writes;
}
