-- What the proofs ask of a program that is judged: every code is well nested, as in a sound file.
use Rattle.std.specs.Prelude.{◌≡◌, List, [], ◌∷◌, None}
use Rattle.program.specs.Layout.{CodeSection}
use Rattle.program.specs.Nesting.{first_broken}

unfoldable pub Nested : List CodeSection → Type 0
Nested [] = Unit
Nested (section ∷ sections) = (first_broken 0 section.code [] ≡ None) × Nested sections
