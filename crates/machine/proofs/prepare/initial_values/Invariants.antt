-- `initial_values` meets its contract. The invariant: the first i variables have their initial values. Assumes nothing.
use Rattle.std.proofs.Common.{◌≡◌, length, take}
use Rattle.program.specs.Layout.{program_of}
use Rattle.program.specs.Limits.{variable_limit}
use Rattle.machine.specs.State.{start}
use Rattle.machine.proofs.prepare.initial_values.Given as goal

abbrev pub invariant-loop-i : goal.invariant-loop-i
invariant-loop-i l = (length l.variables ≡ variable_limit) × (take l.i l.variables ≡ take l.i (start (program_of l.s l.fn.l)).variables)
