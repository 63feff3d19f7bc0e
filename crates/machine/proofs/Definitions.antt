-- The definitions of running open, those of reading among them, for theorems by computation. Assumes nothing.
use mathlib.Core.List.{flat_map}
use Rattle.program.proofs.Definitions.{reading_definitions}
use Rattle.machine.specs.Block.{covers, covered_from, inside, OthersOutside, NobodyInside, UninterruptedFrom, Uninterrupted}
use Rattle.machine.specs.Run.{Entries, counts_of, counted_for, run_from, run, total, sum_of, times_named}
use Rattle.machine.specs.State.{fresh, start, thread_of, pair_bytes, word_bytes, thread_bytes, state_bytes}
use Rattle.machine.specs.Signed.{signed_value, register_of, rounded_hundredth, in_span, mulh, lesss}
use Rattle.machine.specs.Step.{waits, value_read, variables_after, locks_after, result_of, stored, registers_after, branch, place_after, place_behind, thread_after, instruction_of, move_by, outcome, step}

unfoldable pub running_definitions : Unit {0}
unfolding reading_definitions flat_map fresh start thread_of pair_bytes word_bytes thread_bytes state_bytes waits value_read variables_after locks_after result_of stored registers_after branch place_after place_behind thread_after instruction_of move_by outcome step counts_of counted_for run_from run total sum_of times_named covers covered_from inside OthersOutside NobodyInside UninterruptedFrom Uninterrupted Entries signed_value register_of rounded_hundredth in_span mulh lesss
running_definitions = tt
