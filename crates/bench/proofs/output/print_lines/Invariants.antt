-- `print_lines` meets its contract: after i turns the first i lines are written. Assumes nothing.
use Rattle.bench.specs.Internal.Printing.{Lines, lines_of}
use Rattle.bench.proofs.output.print_lines.Given as goal

abbrev pub invariant-loop-i : goal.invariant-loop-i
invariant-loop-i l = Lines (lines_of l.printout) l.i l.initial.text l.text l.at
