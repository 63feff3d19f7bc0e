-- Facts about lists that the kit's lib.ListN and lib.Seq do not have; of any element. Assumes nothing.
--     get_d_any          an element that is there, whatever stands for none
--     get_or-first       ... of the first n
--     get_or-set_holds   a property of the element at each index, kept by a store of one that has it there
--     get_or-set_self    an element set to what stands for none, there or not
--     take_rest, drop-rest
--                        the rest from a position on, taken whole: all of it, and nothing behind
--     take-replicate, get_or-replicate_same
--                        the first of equal elements, and any
--     sets-append        two runs of stores, the second right behind the first
--     set-sets           a store in front of a run of stores
--     sets-front         a run of stores from the front on; what is behind it stays
--     flat_map-append, flat_map-next, length-flat_map
--                        what the elements of a list give, one after the other: of two lists; of one element more; how much, where
--                        each gives as much
--     flatten_next       lists one after the other: one list more
--     listed             the elements of a list, one by one
--     listed_self, listed_set
--                        a list is its elements; with another element at a it is that one at a and its own elsewhere
use Prim.Native.Nat.{ℕ, zero, suc, ◌+◌, ◌-◌, ◌*◌, ◌≤◌, ◌<◌}
use mathlib.Core.Path.{◌≡◌, refl, sym, ◌∙◌, ap}
use mathlib.Core.List.{List, [], ◌∷◌, ◌++◌, flat_map, flatten, append_assoc, append-nil}
use native.Mathlib.Nat.{add-zero, zero-add, mul-zero, mul-suc}
use native.Mathlib.Numerals.{add-one}
use native.Mathlib.Omega.{arith}
use lib.ListN.{length, get_or, set, take, drop, replicate, length-append, length-drop, drop_of_length-le}
use lib.Dec.{eqb, eqb-zero-suc, eqb-suc-zero, eqb-suc-suc}
use lib.Seq.{sets, set_comm, sets-eq, take-suc, take_all, get_or-take}
use Rattle.program.specs.Choice.{choose}

module _ {A : Type 0} where
  pub get_d_any : (l : List A) (i : ℕ) (d e : A) → i < length l → get_or l i d ≡ get_or l i e
  get_d_any [] i d e h = absurd (let none : ⊥ = omega arith in none)
  get_d_any (a ∷ l) zero d e h = refl
  get_d_any (a ∷ l) (suc i) d e h = get_d_any l i d e (omega arith)

  pub get_or-first : (n : ℕ) (l : List A) (i : ℕ) (d e : A) → i < n → n ≤ length l → get_or (take n l) i d ≡ get_or l i e
  get_or-first n l i d e h k = get_or-take n l i d h ∙ get_d_any l i d e (omega arith)

  pub get_or-set_holds : (P : ℕ → A → Type 0) (l : List A) (i : ℕ) (a d : A) → P i a → (j : ℕ) → P j (get_or l j d) → P j (get_or (set l i a) j d)
  get_or-set_holds P [] i a d h j k = k
  get_or-set_holds P (b ∷ l) zero a d h zero k = h
  get_or-set_holds P (b ∷ l) zero a d h (suc j) k = k
  get_or-set_holds P (b ∷ l) (suc i) a d h zero k = k
  get_or-set_holds P (b ∷ l) (suc i) a d h (suc j) k = get_or-set_holds (λ n. P (suc n)) l i a d h j k

  pub get_or-set_self : (l : List A) (i : ℕ) (a : A) → get_or (set l i a) i a ≡ a
  get_or-set_self [] i a = refl
  get_or-set_self (b ∷ l) zero a = refl
  get_or-set_self (b ∷ l) (suc i) a = get_or-set_self l i a

  pub take_rest : (at : ℕ) (l : List A) → take (length l - at) (drop at l) ≡ drop at l
  take_rest at l = take_all (length l - at) (drop at l) (omega (arith, length-drop at l))

  pub drop-rest : (at : ℕ) (l : List A) → drop (length l - at) (drop at l) ≡ []
  drop-rest at l = drop_of_length-le (drop at l) {i = length l - at} (omega (arith, length-drop at l))

  pub take-replicate : (k n : ℕ) (a : A) → k ≤ n → take k (replicate n a) ≡ replicate k a
  take-replicate zero n a h = refl
  take-replicate (suc k) zero a h = absurd (let none : ⊥ = omega arith in none)
  take-replicate (suc k) (suc n) a h = rw (take-replicate k n a (omega arith))

  pub get_or-replicate_same : (n i : ℕ) (a : A) → get_or (replicate n a) i a ≡ a
  get_or-replicate_same zero i a = refl
  get_or-replicate_same (suc n) zero a = refl
  get_or-replicate_same (suc n) (suc i) a = get_or-replicate_same n i a

  pub sets-append : (l : List A) (i : ℕ) (u v : List A) → sets l i (u ++ v) ≡ sets (sets l i u) (i + length u) v
  sets-append l i [] v = ap (λ (k : ℕ). sets l k v) (sym (add-zero i))
  sets-append l i (a ∷ u) v = sets-append (set l i a) (suc i) u v ∙ ap (λ (k : ℕ). sets (sets (set l i a) (suc i) u) k v) (omega arith)

  pub set-sets : (l : List A) (i j : ℕ) (a : A) (v : List A) → i < j → set (sets l j v) i a ≡ sets (set l i a) j v
  set-sets l i j a [] h = refl
  set-sets l i j a (b ∷ v) h =
      set-sets (set l j b) i (suc j) a v (omega arith) ∙ ap (λ (m : List A). sets m (suc j) v) (set_comm l j i b a (omega arith))

  pub sets-front : (l v : List A) → length v ≤ length l → sets l 0 v ≡ v ++ drop (length v) l
  sets-front l v h = sets-eq v l 0 (omega arith) ∙ ap (λ (k : ℕ). v ++ drop k l) (zero-add (length v))

  flatten_snoc : (ls : List (List A)) (l : List A) → flatten (ls ++ l ∷ []) ≡ flatten ls ++ l
  unfolding flatten
  flatten_snoc [] l = append-nil l
  flatten_snoc (k ∷ ls) l = rw (flatten_snoc ls l) (sym (append_assoc k (flatten ls) l))

  pub flatten_next : (ls : List (List A)) (i : ℕ) → i < length ls → flatten (take (i + 1) ls) ≡ flatten (take i ls) ++ get_or ls i []
  flatten_next ls i h = rw (add-one i, take-suc ls i [] h) (flatten_snoc (take i ls) (get_or ls i []))

  unfoldable pub listed : ℕ → (ℕ → A) → List A
  listed zero f = []
  listed (suc n) f = f 0 ∷ listed n (λ k. f (suc k))

  pub listed_self : (l : List A) (d : A) → listed (length l) (λ k. get_or l k d) ≡ l
  unfolding listed
  listed_self [] d = refl
  listed_self (a ∷ l) d = ap (λ (m : List A). a ∷ m) (listed_self l d)

  pub listed_set : (l : List A) (i : ℕ) (x d : A) → listed (length l) (λ k. choose (eqb i k) x (get_or l k d)) ≡ set l i x
  unfolding listed
  listed_set [] i x d = refl
  listed_set (a ∷ l) zero x d = simp eqb-zero-suc (ap (λ (m : List A). x ∷ m) (listed_self l d))
  listed_set (a ∷ l) (suc i) x d = simp (eqb-suc-zero, eqb-suc-suc) (ap (λ (m : List A). a ∷ m) (listed_set l i x d))

module _ {A B : Type 0} (f : A → List B) where
  pub flat_map-append : (xs ys : List A) → flat_map f (xs ++ ys) ≡ flat_map f xs ++ flat_map f ys
  unfolding flat_map
  flat_map-append [] ys = refl
  flat_map-append (x ∷ xs) ys = rw (flat_map-append xs ys, append_assoc)

  pub flat_map-next : (xs : List A) (i : ℕ) (d : A) → i < length xs → flat_map f (take (i + 1) xs) ≡ flat_map f (take i xs) ++ f (get_or xs i d)
  unfolding flat_map
  flat_map-next xs i d h = rw (add-one, take-suc xs i d, flat_map-append, append-nil)

  pub length-flat_map : (k : ℕ) (xs : List A) (d : A) → ((i : ℕ) → i < length xs → length (f (get_or xs i d)) ≡ k)
      → length (flat_map f xs) ≡ k * length xs
  unfolding flat_map
  length-flat_map k [] d h = sym (mul-zero k)
  length-flat_map k (x ∷ xs) d h =
      length-append (f x) (flat_map f xs)
      ∙ rw (h 0 (omega arith), length-flat_map k xs d (λ i l. h (suc i) (omega arith)), mul-suc) (omega arith)
