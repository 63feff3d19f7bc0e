-- Demand 2, of judging (the standard, "What is promised": "A sound file is accepted exactly when the rules .. hold of it, and then the
-- report is what they give"). That running is the step machine is what run's contract says.
use Rattle.std.specs.Prelude.{ℕ, ◌≡◌, ◌↔◌, List, Ok}
use Rattle.judge.specs.Acceptance.{Accepted, sound, accept}
use Rattle.judge.specs.Rules.{TypedProgram, program_report}

-- the rules derive the program with this report
abbrev pub Derives : Accepted → Type 0
Derives a = (derivation : TypedProgram a.program) × (program_report derivation ≡ a.report)

unfoldable pub Demand2 : List ℕ → Type 0
Demand2 file = (a : Accepted) → (accept file ≡ Ok a) ↔ ((sound file ≡ Ok a.program) × Derives a)
