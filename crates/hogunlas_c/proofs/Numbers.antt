-- A refusal as the numbers that C gets. Assumes nothing.
--     judged_refused, ran_refused, printed_refused   of judge, of run, of line: its number and detail, and 0 for the rest
use Rattle.std.proofs.Common.{◌≡◌, ℕ, replicate, Err}
use Rattle.machine.specs.Run.{uncounted}
use Rattle.program.specs.Limits.{thread_limit}
use Rattle.program.specs.Refusal.{number_of, detail_of}
use Rattle.program.specs.declared.refusal.Refusal.{Refusal}
use Rattle.hogunlas_c.specs.Numbers.{judged_numbers, ran_numbers, printed_numbers}
use Rattle.hogunlas_c.specs.declared.JudgedNumbers.{JudgedNumbers}
use Rattle.hogunlas_c.specs.declared.RanNumbers.{RanNumbers}
use Rattle.hogunlas_c.specs.declared.PrintedNumbers.{PrintedNumbers}

module _ (n d : ℕ) (r : Refusal) (is_number : n ≡ number_of r) (is_detail : d ≡ detail_of r) where
  pub judged_refused : ◌≡◌ {A = JudgedNumbers} (record { refusal = n; detail = d; length = 0 }) (judged_numbers (Err r))
  judged_refused = cc

  pub ran_refused : ◌≡◌ {A = RanNumbers} (record { refusal = n; detail = d; threads = replicate thread_limit uncounted }) (ran_numbers (Err r))
  ran_refused = cc

  pub printed_refused : ◌≡◌ {A = PrintedNumbers} (record { refusal = n; detail = d; length = 0 }) (printed_numbers (Err r))
  printed_refused = cc
