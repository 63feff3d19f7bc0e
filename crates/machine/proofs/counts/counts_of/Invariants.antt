-- `counts_of` meets its contract: the counts of the threads before t are there. Assumes nothing.
use Rattle.std.proofs.Common.{◌≡◌, ℕ, ◌<◌, length, get_or}
use Rattle.program.specs.Limits.{thread_limit}
use Rattle.machine.specs.Run.{counts_of}
use Rattle.machine.specs.Internal.Tally.{tallied}
use Rattle.machine.proofs.counts.counts_of.Given as goal

abbrev pub invariant-loop-t : goal.invariant-loop-t
invariant-loop-t l =
    (length l.all ≡ thread_limit)
    × ((u : ℕ) → u < l.t → counts_of l.all u ≡ tallied l.list u (get_or l.tallies.moved u 0) (get_or l.tallies.waiting u 0))
