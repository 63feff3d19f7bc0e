-- A table of src/, whose rows and columns stand in the order of the report bytes, read at two atomicities. Assumes nothing.
--     column_below   the row and the column of an atomicity are below 5
--     values_of, values_of_at
--                    a function's values in that order; reading them at an atomicity is the function's value
--     table_at       what `TABLE[i][j]` answers, for a table of a function of two
use Rattle.std.proofs.Common.{◌≡◌, ◌<◌, refl, ◌∙◌, ap, List, [], ◌∷◌, get_or}
use lib.Dec.{lit<}
use Rattle.atomicity.specs.Internal.Column.{column}
use Rattle.atomicity.specs.declared.Atomicity.{Atomicity}
use Rattle.atomicity.specs.declared.Atomicity.TheVariants.{Both, Left, Right, Atomic, Top}

-- the row and the column of an atomicity are below 5
pub column_below : (a : Atomicity) → column a < 5
column_below Both = lit< tt
column_below Left = lit< tt
column_below Right = lit< tt
column_below Atomic = lit< tt
column_below Top = lit< tt

module _ {A : Type 0} where
  abbrev pub values_of : (Atomicity → A) → List A
  values_of f = f Both ∷ f Left ∷ f Right ∷ f Atomic ∷ f Top ∷ []

  pub values_of_at : (f : Atomicity → A) (a : Atomicity) (d : A) → get_or (values_of f) (column a) d ≡ f a
  values_of_at f Both d = refl
  values_of_at f Left d = refl
  values_of_at f Right d = refl
  values_of_at f Atomic d = refl
  values_of_at f Top d = refl

-- what `TABLE[i][j]` answers, for a table of the function f
pub table_at : {A : Type 0} (f : Atomicity → Atomicity → A) (a b : Atomicity) (d : A)
    → get_or (get_or (values_of (λ (x : Atomicity). values_of (f x))) (column a) []) (column b) d ≡ f a b
table_at f a b d = ap (λ (l : List _). get_or l (column b) d) (values_of_at (λ (x : Atomicity). values_of (f x)) a []) ∙ values_of_at (f a) b d
