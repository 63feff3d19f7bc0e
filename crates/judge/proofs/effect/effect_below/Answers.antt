-- `effect_below` meets its contract. Assumes nothing.
use Rattle.std.proofs.Common.{sym, ◌∙◌}
use Rattle.program.specs.View.{access_of, form_of, statement_of}
use Rattle.judge.specs.Internal.Effect.{form_effect, effect_of}
use Rattle.judge.proofs.effect.effect_below.Goals as goal

pub returns-in-Read : goal.returns-in-Read
unfolding effect_of form_effect form_of statement_of access_of
returns-in-Read c s l code tables below = rw c.in-Read.is (c.by_rule.ensures ∙ sym (tables.reading _ (rw c.in-Read.is at below) _ _))

pub returns-in-Write : goal.returns-in-Write
unfolding effect_of form_effect form_of statement_of access_of
returns-in-Write c s l code tables below = rw c.in-Write.is (c.by_rule-in-Write.ensures ∙ sym (tables.writing _ c.in-Write.field-0 (rw c.in-Write.is at below) _ _))
