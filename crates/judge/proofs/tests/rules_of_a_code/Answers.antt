-- `rules_of_a_code`: the file that was read is sound. Assumes nothing.
use Rattle.std.proofs.Common.{arith, sym}
use Rattle.program.proofs.Sound.{sound_file}
use Rattle.judge.proofs.tests.rules_of_a_code.Goals as goal

pub locate-file-requires : goal.locate-file-requires
locate-file-requires g c = sound_file _ _ (sym c.in-Ok.ensures.0)

pub of-rules-requires : goal.of-rules-requires
of-rules-requires g c = (omega arith, rw (c.locate-file.ensures.0, c.locate-file.ensures.1) c.in-Ok.ensures.1)
