-- `locate` meets its contract: one code more is located. Assumes nothing.
use Rattle.program.proofs.SectionTable.{filling_next}
use Rattle.program.proofs.sections.ProgramFile.locate.Goals as goal

pub loop-c-preserved : goal.loop-c-preserved
loop-c-preserved c = rw c.code_count-count.ensures (filling_next _ _ _ _ _ _ c.requires c.loop-c.invariant c.loop-c-test.true)
