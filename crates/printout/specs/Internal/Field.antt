-- The words of an instruction's and of a kind's fields, as the code writes them. Internal: `Line` says what the words of the whole are.
--     field_words   the words of a field: one, or none where an ATOMIC states nothing
--     field_room    the most bytes that they take, each with a blank behind it
use Rattle.std.specs.Prelude.{ℕ, List, [], ◌∷◌}
use Rattle.printout.specs.Text.{decimal}
use Rattle.printout.specs.Line.{numbered, stated_words}
use Rattle.printout.specs.declared.words.Field.{Field}
use Rattle.printout.specs.declared.words.Field.TheVariants.{Register, Variable, Lock, Thread, Number, Stated}

unfoldable pub field_words : Field → List (List ℕ)
field_words (Register a) = numbered "r" a ∷ []
field_words (Variable v) = numbered "v" v ∷ []
field_words (Lock k) = numbered "k" k ∷ []
field_words (Thread t) = numbered "t" t ∷ []
field_words (Number n) = decimal n ∷ []
field_words (Stated a) = stated_words a

-- a letter, three digits and a blank; five digits and a blank; a letter and a blank
abbrev pub field_room : Field → ℕ
field_room (Register a) = 5
field_room (Variable v) = 5
field_room (Lock k) = 5
field_room (Thread t) = 5
field_room (Number n) = 6
field_room (Stated a) = 2
