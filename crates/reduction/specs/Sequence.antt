-- What is said of a list: a property of each element, a relation of each element to each later one.
use Rattle.std.specs.Prelude.{List, [], ◌∷◌}

module _ {A : Type 0} where
  -- each element is P
  pub data All (P : A → Type 0) : List A → Type 0 where
    all_nil : All P []
    all_cons : {x : A} {l : List A} → P x → All P l → All P (x ∷ l)

  -- for all i < j the i-th element is R to the j-th
  pub data AllPairs (R : A → A → Type 0) : List A → Type 0 where
    pairs_nil : AllPairs R []
    pairs_cons : {x : A} {l : List A} → All (R x) l → AllPairs R l → AllPairs R (x ∷ l)
