-- `bytes_before` meets its contract: the bytes of the codes before `u` are summed.
use mathlib.Core.Path.{◌≡◌}
use Rattle.program.specs.Internal.Sections.{bytes_before}
use Rattle.program.proofs.sections.bytes_before.Given as goal

abbrev pub invariant-loop-u : goal.invariant-loop-u
invariant-loop-u l = l.bytes ≡ bytes_before l.counts l.u
