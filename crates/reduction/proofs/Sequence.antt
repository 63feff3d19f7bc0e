-- Laws of `All` and `AllPairs`. Assumes nothing.
--     all_head, pairs_head        at the head: the first has it; the first is related to all behind it
--     all_append                  both parts have it, so the whole does
--     all_behind, pairs_behind    the part behind
--     all_before, pairs_before    the part before
--     all_of, pairs_of            where everything has it, or is related
use Rattle.std.proofs.Common.{List, [], ◌∷◌, ◌++◌}
use Rattle.reduction.specs.Sequence.{All, all_nil, all_cons, AllPairs, pairs_nil, pairs_cons}

module _ {A : Type 0} where
  -- ---- the head

  pub all_head : {P : A → Type 0} {x : A} {l : List A} → All P (x ∷ l) → P x
  all_head (all_cons p h) = p

  pub pairs_head : {R : A → A → Type 0} {x : A} {l : List A} → AllPairs R (x ∷ l) → All (R x) l
  pairs_head (pairs_cons p h) = p

  -- ---- `◌++◌`

  -- both parts
  pub all_append : {P : A → Type 0} {a l : List A} → All P a → All P l → All P (a ++ l)
  all_append all_nil k = k
  all_append (all_cons p h) k = all_cons p (all_append h k)

  -- the part behind
  pub all_behind : {P : A → Type 0} (a : List A) {l : List A} → All P (a ++ l) → All P l
  all_behind [] h = h
  all_behind (x ∷ a) (all_cons p h) = all_behind a h

  pub pairs_behind : {R : A → A → Type 0} (a : List A) {l : List A} → AllPairs R (a ++ l) → AllPairs R l
  pairs_behind [] h = h
  pairs_behind (x ∷ a) (pairs_cons p h) = pairs_behind a h

  -- the part before
  pub all_before : {P : A → Type 0} (a l : List A) → All P (a ++ l) → All P a
  all_before [] l h = all_nil
  all_before (x ∷ a) l (all_cons p h) = all_cons p (all_before a l h)

  -- the part before, where Q follows from being R to all of the part behind
  pub pairs_before : {R : A → A → Type 0} {Q : A → Type 0} (a : List A) {l : List A} →
      ((x : A) → All (R x) l → Q x) → AllPairs R (a ++ l) → All Q a
  pairs_before [] f h = all_nil
  pairs_before (x ∷ a) f (pairs_cons p h) = all_cons (f x (all_behind a p)) (pairs_before a f h)

  -- ---- everything

  pub all_of : {P : A → Type 0} (l : List A) → ((x : A) → P x) → All P l
  all_of [] f = all_nil
  all_of (x ∷ l) f = all_cons (f x) (all_of l f)

  pub pairs_of : {R : A → A → Type 0} (l : List A) → ((x y : A) → R x y) → AllPairs R l
  pairs_of [] f = pairs_nil
  pairs_of (x ∷ l) f = pairs_cons (all_of l (f x)) (pairs_of l f)
