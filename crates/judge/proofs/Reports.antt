-- The report's bytes stored one after the other, and the byte of an opener, stored when its construct ends. Assumes nothing.
--     sets-closed   a construct's bytes: its body's, 0 at its closer, then its own at its opener
--     sets-parts    two parts' bytes with a 0 between them
use Rattle.std.proofs.Common.{ℕ, suc, ◌+◌, ◌≡◌, sym, ◌∙◌, ap, List, ◌∷◌, ◌++◌, arith, length, set}
use lib.Seq.{sets, set_comm}
use Rattle.program.proofs.Lists.{sets-append, set-sets}

pub sets-closed : (l : List ℕ) (at n byte : ℕ) (body rest : List ℕ) → n ≡ suc at + length body
    → sets (set (set (sets l (suc at) body) n 0) at byte) (suc n) rest ≡ sets l at (byte ∷ (body ++ (0 ∷ rest)))
sets-closed l at n byte body rest e =
    ap (λ (m : List ℕ). sets m (suc n) rest) (set_comm (sets l (suc at) body) n at 0 byte (omega arith))
    ∙ ap (λ (m : List ℕ). sets (set m n 0) (suc n) rest) (set-sets l at (suc at) byte body (omega arith))
    ∙ ap (λ (k : ℕ). sets (sets (set l at byte) (suc at) body) k (0 ∷ rest)) e
    ∙ sym (sets-append (set l at byte) (suc at) body (0 ∷ rest))

pub sets-parts : (l : List ℕ) (i n : ℕ) (u v : List ℕ) → n ≡ i + length u → sets (set (sets l i u) n 0) (suc n) v ≡ sets l i (u ++ 0 ∷ v)
sets-parts l i n u v e = ap (λ (k : ℕ). sets (sets l i u) k (0 ∷ v)) e ∙ sym (sets-append l i u (0 ∷ v))
