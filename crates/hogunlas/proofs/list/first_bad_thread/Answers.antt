-- `first_bad_thread`: a list whose numbers are all below is searched in vain. Assumes nothing.
use Rattle.std.proofs.Common.{sym, ◌∙◌}
use Rattle.hogunlas.proofs.Listed.{all_good}
use Rattle.hogunlas.proofs.Running.{entries_searched}
use Rattle.hogunlas.proofs.list.first_bad_thread.Goals as goal

-- `return None`
pub returns-then-all_below : goal.returns-then-all_below
returns-then-all_below c =
    let below = all_good c.args.threads c.args.list.now (sym c.all_below.ensures ∙ c.if-all_below.true) in
    sym (entries_searched c.args.threads c.args.list.now below)
