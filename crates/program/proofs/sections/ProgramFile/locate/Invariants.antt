-- `locate` meets its contract: the sections from `at` on are those of the codes from `c` on, and those before are located.
use Rattle.program.proofs.SectionTable.{Filling}
use Rattle.program.proofs.sections.ProgramFile.locate.Given as goal

abbrev pub invariant-loop-c : goal.invariant-loop-c
invariant-loop-c l = Filling l.bytes l.layout l.starts l.counts l.at l.c
