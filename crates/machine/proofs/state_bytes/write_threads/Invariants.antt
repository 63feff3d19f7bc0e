-- `write_threads` meets its contract. The invariant: the threads before this one are written. Assumes nothing.
use Rattle.std.proofs.Common.{◌≡◌, take}
use mathlib.Core.List.{flat_map}
use lib.Seq.{sets}
use Rattle.machine.specs.State.{thread_bytes}
use Rattle.machine.proofs.state_bytes.write_threads.Given as goal

abbrev pub invariant-loop-i : goal.invariant-loop-i
invariant-loop-i l = l.out ≡ sets l.initial.out l.at (flat_map thread_bytes (take l.i l.threads))
