-- Each call's answer as the numbers that C gets (include/hogunlas.h): "Each refusal returns its number and one detail D" (the standard,
-- "Who can bring a number about"), and "with a refusal the answer's own numbers are 0" ("The calls"); refusal 0 for none.
use Rattle.std.specs.Prelude.{ℕ, List, replicate, Result, Ok, Err}
use Rattle.machine.specs.Run.{uncounted}
use Rattle.machine.specs.declared.counts.Counts.{Counts}
use Rattle.program.specs.Limits.{thread_limit}
use Rattle.program.specs.Refusal.{number_of, detail_of}
use Rattle.program.specs.declared.refusal.Refusal.{Refusal}
use Rattle.hogunlas_c.specs.declared.JudgedNumbers.{JudgedNumbers}
use Rattle.hogunlas_c.specs.declared.RanNumbers.{RanNumbers}
use Rattle.hogunlas_c.specs.declared.PrintedNumbers.{PrintedNumbers}

abbrev pub judged_numbers : Result ℕ Refusal → JudgedNumbers
judged_numbers (Ok n) = record { refusal = 0; detail = 0; length = n }
judged_numbers (Err r) = record { refusal = number_of r; detail = detail_of r; length = 0 }

abbrev pub ran_numbers : Result (List Counts) Refusal → RanNumbers
ran_numbers (Ok threads) = record { refusal = 0; detail = 0; threads = threads }
ran_numbers (Err r) = record { refusal = number_of r; detail = detail_of r; threads = replicate thread_limit uncounted }

abbrev pub printed_numbers : Result ℕ Refusal → PrintedNumbers
printed_numbers (Ok n) = record { refusal = 0; detail = 0; length = n }
printed_numbers (Err r) = record { refusal = number_of r; detail = detail_of r; length = 0 }
