-- The kind of a variable, found in the file. Assumes nothing.
--     kind_in    a variable of the file: what its record says
use Rattle.std.proofs.Common.{ℕ, ◌<◌, ◌≡◌, ap, List}
use Rattle.program.specs.Layout.{program_of}
use Rattle.program.specs.Limits.{records_start, record_offset}
use Rattle.program.specs.Variable.{Variable, kind_of, record_at, variable_at}
use Rattle.program.specs.declared.layout.Layout.{Layout}
use Rattle.program.specs.declared.variable.Kind.TheVariants.{Open}
use Rattle.program.proofs.Contents.{get_or-variables}
use Rattle.judge.specs.Discipline.{kind_at}

module _ (s : List ℕ) (l : Layout) (v : ℕ) where
  pub kind_in : v < l.variables → kind_at (program_of s l) v ≡ kind_of (record_at l.locks l.threads s (record_offset v))
  unfolding kind_at program_of variable_at
  kind_in h = ap (λ (x : Variable). x.kind) (get_or-variables l.locks l.threads s l.variables records_start v (record { kind = Open; initial = 0 }) h)
