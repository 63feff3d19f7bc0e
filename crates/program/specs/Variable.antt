-- Variable records (the standard, "The file": "A variable record has 6 bytes: kind, g, initial value"; "Who can bring a
-- number about": 6).
use Rattle.std.specs.Prelude.{ℕ, ◌+◌, Bool, true, false, List, ltb, eqb, Option, Some, None}
use Rattle.program.specs.Choice.{choose}
use Rattle.program.specs.Field.{byte_at, word_at}
use Rattle.program.specs.declared.variable.Kind.{Kind}
use Rattle.program.specs.declared.variable.Kind.TheVariants.{Guarded, Own, Fixed, Open}

-- "Kinds: 0 guarded by lock g; 1 own to thread g; 2 fixed, g is 0; 3 open, g is 0"
unfoldable pub recorded : (locks threads kind g : ℕ) → Option Kind
recorded locks threads kind g =
    choose (eqb kind 0) (choose (ltb g locks) (Some (Guarded g)) None)
    (choose (eqb kind 1) (choose (ltb g threads) (Some (Own g)) None)
    (choose (eqb kind 2) (choose (eqb g 0) (Some Fixed) None)
    (choose (eqb kind 3) (choose (eqb g 0) (Some Open) None)
    None)))

-- "6: record with a kind above 3 or a bad g"
abbrev pub is_valid : Option Kind → Bool
is_valid (Some k) = true
is_valid None = false

-- the kind that a valid record says
abbrev pub kind_of : Option Kind → Kind
kind_of (Some k) = k
kind_of None = Open

pub record Variable : Type 0 where
  pub kind : Kind
  pub initial : ℕ

-- the record at an offset
unfoldable pub record_at : (locks threads : ℕ) → List ℕ → ℕ → Option Kind
record_at locks threads s at = recorded locks threads (byte_at s at) (byte_at s (at + 1))

unfoldable pub variable_at : (locks threads : ℕ) → List ℕ → ℕ → Variable
variable_at locks threads s at = record { kind = kind_of (record_at locks threads s at); initial = word_at s (at + 2) }
