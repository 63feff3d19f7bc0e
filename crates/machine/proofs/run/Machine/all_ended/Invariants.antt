-- `all_ended` meets its contract: the threads before t are at their ends. Assumes nothing.
use Rattle.std.proofs.Common.{◌≡◌, ℕ, ◌<◌, get_or}
use Rattle.machine.specs.Internal.Kept.{nobody}
use Rattle.machine.proofs.run.Machine.all_ended.Given as goal

abbrev pub invariant-loop-t : goal.invariant-loop-t
invariant-loop-t l = (u : ℕ) → u < l.t → (get_or l.self.running.threads u nobody).place ≡ get_or l.self.file.counts u 0
