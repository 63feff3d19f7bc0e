-- What line answers at each place where its code returns. Assumes nothing.
--     line_refused   the file is refused
--     line_number    there is no such line
--     line_short     the buffer is too short for a line
--     line_done      the line
use Rattle.std.proofs.Common.{◌≡◌, refl, ℕ, ◌<◌, ◌≤◌, List, [], length, get_or, le-leb, lt-ltb, le-ltb, Ok, Err}
use borrow.Author.Tests.{lt-leb}
use Rattle.judge.specs.Acceptance.{accept}
use Rattle.printout.proofs.Parts.{length-lines}
use Rattle.printout.specs.Line.{lines}
use Rattle.program.proofs.Sound.{sound_file}
use Rattle.program.specs.Layout.{program_of}
use Rattle.program.specs.Limits.{line_size}
use Rattle.program.specs.Internal.Bounds.{line_count}
use Rattle.program.specs.declared.layout.Layout.{Layout}
use Rattle.program.specs.declared.refusal.Refusal.{Refusal}
use Rattle.program.specs.declared.refusal.Refusal.TheVariants.{ShortBuffer, LineNumber}
use Rattle.hogunlas.specs.Calls.{line_answer}
use Rattle.hogunlas.specs.Internal.Opened.{Opened}

-- how many lines there are
abbrev line_count_of : Layout → ℕ
line_count_of l = line_count l.variables l.threads l.instructions

module _ (s : List ℕ) (i room : ℕ) where
  -- the file is refused
  pub line_refused : (r : Refusal) → accept s ≡ Err r → line_answer s i room ≡ Err r
  unfolding line_answer
  line_refused r e = rw e refl

  module _ (l : Layout) (report : List ℕ) (o : Opened s l report) where
    -- as many lines as counted
    lines_counted : length (lines s (program_of s l) report) ≡ line_count_of l
    lines_counted = length-lines s l report (sound_file s l o.reads)

    -- there is no such line
    pub line_number : line_count_of l ≤ i → line_answer s i room ≡ Err (LineNumber (line_count_of l))
    unfolding line_answer
    line_number h = rw (o.accepts, lines_counted, le-ltb i (line_count_of l) h) refl

    module _ (h : i < line_count_of l) where
      -- the buffer is too short for a line
      pub line_short : room < line_size → line_answer s i room ≡ Err (ShortBuffer line_size)
      unfolding line_answer
      line_short k = rw (o.accepts, lines_counted, lt-ltb i (line_count_of l) h, lt-leb line_size room k) refl

      -- the line
      pub line_done : line_size ≤ room → line_answer s i room ≡ Ok (get_or (lines s (program_of s l) report) i [])
      unfolding line_answer
      line_done k = rw (o.accepts, lines_counted, lt-ltb i (line_count_of l) h, le-leb line_size room k) refl
