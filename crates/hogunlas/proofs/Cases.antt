-- The standard's starred cases hold of the definitions. Assumes nothing.
--     starred_cases   one computed theorem over the table
use Rattle.std.proofs.Common.{◌≡◌, refl, map}
use Rattle.hogunlas.specs.Cases.{Case, starred}
use Rattle.hogunlas.proofs.Definitions.{definitions}

pub starred_cases : map (λ (c : Case). c.computed) starred ≡ map (λ (c : Case). c.stated) starred
unfolding starred definitions
starred_cases = refl
