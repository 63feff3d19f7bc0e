-- `fill_rules`: the rules of the variables before v stand in both tables, and no lock at or above the limit came in. Assumes nothing.
use Rattle.std.proofs.Common.{◌∙◌, ap, arith, ℕ, List, ◌^◌, get_or}
use Rattle.program.specs.Layout.{program_of}
use Rattle.program.specs.Internal.Marks.{besides}
use Rattle.program.proofs.WriterTable.{table_says}
use Rattle.judge.proofs.AccessRules.{filled_start, filled_next, filled_end, read_locks_next, write_locks_next}
use Rattle.judge.proofs.access_rule.fill_rules.Goals as goal

pub loop-v-init : goal.loop-v-init
loop-v-init c = record { filled = filled_start _ _ _ _ _ (omega arith) (omega arith); read_locks = λ h. h; write_locks = λ h. h }

pub loop-v-preserved : goal.loop-v-preserved
loop-v-preserved c =
    let a = c.args in
    let v = c.loop-v.v in
    let others = c.written_by_other-others.ensures ∙ ap (λ (t : List ℕ). besides (2 ^ a.code) (get_or t v 0)) c.requires.2
    ∙ table_says a.code v (program_of a.bytes.now a.layout) (omega (arith, c.loop-v-test.true, c.requires.0.variables)) in
    let o = c.loop-v.invariant in
    let more = c.loop-v-test.true in record {
      filled = rw (c.of.ensures, c.of-in-loop-v.ensures, others, c.kind_at-kind.ensures) (filled_next _ _ c.requires.0 _ _ _ _ o.filled more);
      read_locks = λ h. rw (c.of.ensures, others, c.kind_at-kind.ensures) (read_locks_next _ _ c.requires.0 _ _ _ o.filled.reads_length more (o.read_locks h));
      write_locks = λ h. rw (c.of-in-loop-v.ensures, c.kind_at-kind.ensures) (write_locks_next _ _ c.requires.0 _ _ _ o.filled.writes_length more (o.write_locks h));
    }

pub returns-clause-lawful : goal.returns-clause-lawful
returns-clause-lawful c = filled_end _ _ c.requires.0 _ _ _ _ c.loop-v.invariant.filled c.loop-v-test.false
