-- Where an atomicity stands in the rows and columns of a table, from 0.
use Rattle.std.specs.Prelude.{ℕ}
use Rattle.atomicity.specs.Atomicity.{by}
use Rattle.atomicity.specs.declared.Atomicity.{Atomicity}

abbrev pub column : Atomicity → ℕ
column = by 0 1 2 3 4
