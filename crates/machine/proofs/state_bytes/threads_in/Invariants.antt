-- `threads_in` meets its contract. The invariant: the first t threads are made. Assumes nothing.
use Rattle.std.proofs.Common.{◌≡◌, length, take}
use Rattle.program.specs.Limits.{thread_limit}
use Rattle.machine.specs.Internal.Kept.{threads_in}
use Rattle.machine.proofs.state_bytes.threads_in.Given as goal

abbrev pub invariant-loop-t : goal.invariant-loop-t
invariant-loop-t l = (length l.threads ≡ thread_limit) × (take l.t l.threads ≡ take l.t (threads_in l.places l.registers))
