-- A list of numbers that are all below a limit. Assumes nothing.
--     all_good        a fold over the whole list that finds each number below the limit
use Rattle.std.proofs.Common.{◌≡◌, ℕ, zero, suc, ◌<◌, Bool, true, ◌&&◌, ltb, ltb-true, List, [], ◌∷◌, length, get_or, fold, arith}
use Rattle.std.proofs.Math.Bool.{and-eq-true_iff}
use Rattle.machine.specs.Run.{Entries}

module _ (limit : ℕ) where
  -- what was found so far holds, and each number of the rest is below the limit
  folded : (good : Bool) (list : List ℕ) → fold (λ g t. g && ltb t limit) good list ≡ true
      → (good ≡ true) × ((i : ℕ) → i < length list → ltb (get_or list i 0) limit ≡ true)
  folded good [] e = (e, λ i h. absurd (let z : ⊥ = omega arith in z))
  folded good (t ∷ ts) e =
      let (here, later) = folded (good && ltb t limit) ts e in
      let both = (and-eq-true_iff good (ltb t limit)).0 here in
      (both.0, each both.1 later)
    where
      each : ltb t limit ≡ true → ((i : ℕ) → i < length ts → ltb (get_or ts i 0) limit ≡ true) → (i : ℕ) → i < length (t ∷ ts) → ltb (get_or (t ∷ ts) i 0) limit ≡ true
      each first later zero h = first
      each first later (suc i) h = later i (omega arith)

  pub all_good : (list : List ℕ) → fold (λ g t. g && ltb t limit) true list ≡ true → Entries limit list
  unfolding Entries
  all_good list e i h = ltb-true (get_or list i 0) limit ((folded true list e).1 i h)
