-- The definitions of judging open, those of reading among them, for theorems by computation. Assumes nothing.
use Rattle.atomicity.specs.Atomicity.{composition, join}
use Rattle.program.proofs.Definitions.{reading_definitions}
use Rattle.judge.specs.Acceptance.{sound, accept}
use Rattle.judge.specs.Discipline.{kind_at, permits, accessed_set, lock_set_after, access_atomicity, access_mover, mover_of, atomicity_of}
use Rattle.judge.specs.Judging.{is_top, states_truly, judge, judge_code, judge_codes, judge_program}
use Rattle.judge.specs.LockSet.{empty, holds, with_lock, without_lock, same}

unfoldable pub judging_definitions : Unit {0}
unfolding reading_definitions composition join empty holds with_lock without_lock same kind_at permits accessed_set lock_set_after access_atomicity access_mover mover_of atomicity_of is_top states_truly judge judge_code judge_codes judge_program sound accept
judging_definitions = tt
