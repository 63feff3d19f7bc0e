-- What bench prints of an accepted file, and how far printing has come. Internal: no public contract names it, and the output itself is hogunlas's
-- `bench_output`.
--     lines_of   the lines of a printout
--     Lines      the first i lines are laid over the buffer
use Rattle.std.specs.Prelude.{ℕ, ◌*◌, ◌≤◌, ◌≡◌, List, length, take}
use mathlib.Core.List.{flatten}
use Rattle.printout.specs.Line.{lines}
use Rattle.printout.specs.declared.print.Printout.{Printout}
use Rattle.program.specs.Layout.{program_of}
use Rattle.program.specs.Limits.{line_size}
use Rattle.hogunlas.specs.Calls.{laid_over}

-- the lines of a printout
abbrev pub lines_of : Printout → List (List ℕ)
lines_of p = lines p.file.now.bytes.now (program_of p.file.now.bytes.now p.file.now.layout) p.report.now

-- the first i lines are laid over the buffer, at most 48 bytes each, and `at` is the position after them
pub record Lines (lines : List (List ℕ)) (i : ℕ) (buffer after : List ℕ) (at : ℕ) : Type 0 where
  pub within : i ≤ length lines
  pub ends : at ≡ length (flatten (take i lines))
  pub bytes : after ≡ laid_over (flatten (take i lines)) buffer
  pub short : at ≤ line_size * i
