-- All definitions open, for theorems by computation: `unfolding definitions` unfolds those of each crate below and of the calls.
-- Assumes nothing.
use mathlib.Core.List.{flatten}
use Rattle.judge.proofs.Definitions.{judging_definitions}
use Rattle.machine.proofs.Definitions.{running_definitions}
use Rattle.printout.proofs.Definitions.{printing_definitions}
use Rattle.hogunlas.specs.Calls.{laid_over, judge_answer, judge_buffer, state_size, run_answer, run_buffer, line_answer, line_buffer, bench_output}
use Rattle.hogunlas.specs.Cases.{judge_says, run_says}

unfoldable pub definitions : Unit {0}
unfolding judging_definitions running_definitions printing_definitions flatten laid_over judge_answer judge_buffer state_size run_answer run_buffer line_answer line_buffer bench_output judge_says run_says
definitions = tt
