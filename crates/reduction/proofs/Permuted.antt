-- Laws of `Permuted`. Assumes nothing.
--     prep_all         the same moves in front of both
--     swap_behind      a move gets behind others
--     permuted_all     a property of each move is preserved
--     permuted_order   so is the blocks' order
--     permuted_moves   ... each thread's moves
use Rattle.std.proofs.Common.{ℕ, ◌≡◌, refl, sym, ap, ◌∙◌, ◌≢◌, List, [], ◌∷◌, ◌++◌}
use Rattle.std.proofs.Math.Decide.{ℕ_discrete}
use Rattle.std.proofs.Math.Logic.{ite}
use Rattle.reduction.specs.Sequence.{All, all_nil, all_cons, pairs_cons}
use Rattle.reduction.specs.Moves.{Moves}
use Rattle.reduction.specs.Reduction.{moves_of, Ordered}
use Rattle.reduction.specs.Serial.{Permuted, unswapped, swap, prep, trans}

-- of two elements of which a filter takes at most one, the order does not matter to it
filter-swap : {A P Q : Type 0} (d : Dec P) (e : Dec Q) → (P → Q → ⊥) → (x y : A) (l : List A) →
    ite e (y ∷ ite d (x ∷ l) l) (ite d (x ∷ l) l) ≡ ite d (x ∷ ite e (y ∷ l) l) (ite e (y ∷ l) l)
filter-swap (yes p) (yes q) n x y l = absurd (n p q)
filter-swap (yes p) (no q) n x y l = refl
filter-swap (no p) (yes q) n x y l = refl
filter-swap (no p) (no q) n x y l = refl

module _ (M : Moves) {R : M.Block → M.Block → Type 0} where
  open M use {Move, thread, block}

  -- ---- how a move gets behind others

  pub prep_all : (a : List Move) {l k : List Move} → Permuted M R l k → Permuted M R (a ++ l) (a ++ k)
  prep_all [] p = p
  prep_all (x ∷ a) p = prep (prep_all a p)

  -- x gets behind other threads' moves c
  pub swap_behind : {x : Move} {c : List Move} (l : List Move) →
      All (λ y. thread x ≢ thread y) c → All (λ y. R (block y) (block x)) c → Permuted M R (x ∷ (c ++ l)) (c ++ x ∷ l)
  swap_behind l all_nil all_nil = unswapped
  swap_behind l (all_cons n ns) (all_cons r rs) = trans (swap n r) (prep (swap_behind l ns rs))

  -- ---- what is preserved

  pub permuted_all : {P : Move → Type 0} {l k : List Move} → Permuted M R l k → All P l → All P k
  permuted_all unswapped h = h
  permuted_all (swap n r) (all_cons p (all_cons q h)) = all_cons q (all_cons p h)
  permuted_all (prep s) (all_cons p h) = all_cons p (permuted_all s h)
  permuted_all (trans s t) h = permuted_all t (permuted_all s h)

  pub permuted_order : {l k : List Move} → Permuted M R l k → Ordered M R l → Ordered M R k
  permuted_order unswapped h = h
  permuted_order (swap n r) (pairs_cons (all_cons p a) (pairs_cons b h)) = pairs_cons (all_cons r b) (pairs_cons a h)
  permuted_order (prep s) (pairs_cons a h) = pairs_cons (permuted_all s a) (permuted_order s h)
  permuted_order (trans s t) h = permuted_order t (permuted_order s h)

  pub permuted_moves : (t : ℕ) {l k : List Move} → Permuted M R l k → moves_of M t k ≡ moves_of M t l
  permuted_moves t unswapped = refl
  permuted_moves t (swap {x} {y} {l} n r) =
      filter-swap (ℕ_discrete (thread x) t) (ℕ_discrete (thread y) t) (λ p q. n (p ∙ sym q)) x y (moves_of M t l)
  permuted_moves t (prep {x} s) = ap (λ k. ite (ℕ_discrete (thread x) t) (x ∷ k) k) (permuted_moves t s)
  permuted_moves t (trans p q) = permuted_moves t q ∙ permuted_moves t p
