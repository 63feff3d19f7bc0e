-- `start` meets its contract. Assumes nothing.
use Rattle.std.proofs.Common.{refl, rules}
use Rattle.machine.specs.State.{fresh}
use Rattle.machine.proofs.Kept.{kept_start}
use Rattle.machine.proofs.run.Machine.start.Goals as goal

pub invariant_of-result : goal.invariant_of-result
unfolding fresh
invariant_of-result c =
    let file = c.args.file.now in
    record { kept = kept_start file.layout file.counts c.initial_values.result _ (search rules) refl }
