-- A run after one entry, as `run_from` goes on with it. Assumes nothing.
use Rattle.std.proofs.Common.{ℕ}
use Rattle.program.specs.Layout.{Program}
use Rattle.machine.specs.Step.{outcome, step}
use Rattle.machine.specs.Run.{Run, counted_for}

abbrev pub after_entry : Program → Run → ℕ → Run
after_entry p r t = record { counts = counted_for t (outcome p t r.state) r.counts; state = step p t r.state }
