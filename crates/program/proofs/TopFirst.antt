-- The stack of src/stack.rt, which is the first d items of an array, the last of them first. Assumes nothing.
--     below_top   the items below the top one
use Prim.Native.Nat.{ℕ, zero, suc, ◌-◌, ◌≤◌, ◌<◌}
use mathlib.Core.Path.{◌≡◌}
use mathlib.Core.List.{List, [], ◌∷◌, reverse}
use lib.ListN.{length, take, drop}
use lib.Seq.{take-suc}
use native.Mathlib.Omega.{arith}
use Rattle.std.proofs.lemmas.List.{reverse-append}

pub below_top : {A : Type 0} (d : ℕ) (xs : List A) → 0 < d → d ≤ length xs → reverse (take (d - 1) xs) ≡ drop 1 (reverse (take d xs))
below_top zero xs h k = absurd (let z : ⊥ = omega arith in z)
below_top (suc d) [] h k = absurd (let z : ⊥ = omega arith in z)
below_top (suc d) (x ∷ xs) h k =
    let e : suc d - 1 ≡ d = omega arith in
    rw (e, take-suc (x ∷ xs) d x (omega arith), reverse-append)
