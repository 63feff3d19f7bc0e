-- What the calls know of a file that judge_file accepted; only functions inside the crate ask it.
--     Opened       it is accepted with this report
--     OpenedFile   ... with some report
use Rattle.std.specs.Prelude.{ℕ, ◌≡◌, List, Ok}
use Rattle.judge.specs.Acceptance.{accept}
use Rattle.program.specs.Layout.{program_of, reading}
use Rattle.program.specs.declared.layout.Layout.{Layout}

-- the file s, with the counts l, is accepted with this report
pub record Opened (s : List ℕ) (l : Layout) (report : List ℕ) : Type 0 where
  pub reads : reading s ≡ Ok l
  pub accepts : accept s ≡ Ok (record { program = program_of s l; report = report })

-- ... with some report
pub record OpenedFile (s : List ℕ) (l : Layout) : Type 0 where
  pub report : List ℕ
  pub opened : Opened s l report
