-- Laws of places. Assumes nothing.
--     span_empty, span_one, span_join   a stretch of no place, of one, of two parts
--     reads_first                       what is read of an element and the rest
--     reads_apart                       what is read of a list, an element and the rest
use Rattle.std.proofs.Common.{ℕ, suc, ◌+◌, ◌<◌, add-zero, arith, ◌≡◌, ap, sym, ◌∙◌, subst, List, ◌∷◌, ◌++◌, length, length-append, get_or-append-add}
use Rattle.std.proofs.Math.Decide.{dec_lt}
use Rattle.std.proofs.Math.Logic.{dite}
use Rattle.std.proofs.Math.ListN.{get_or-append}
use Rattle.std.proofs.Math.Seq.{get_or-append_seam}
use Rattle.soundness.specs.Internal.Places.{Reads, Span}

module _ (P : ℕ → Type 0) where
  pub span_empty : (w : ℕ) → Span P w w
  span_empty w q h k = absurd (omega arith)

  pub span_one : (w : ℕ) → P w → Span P w (suc w)
  span_one w x q h k = subst P (omega arith) x

  pub span_join : {w u v : ℕ} → Span P w u → Span P u v → Span P w v
  span_join {u} f g q h k = dite (dec_lt q u) (λ (l : q < u). f q h l) (λ (n : ¬ (q < u)). g q (omega arith) k)

module _ {A : Type 0} {d : A} {h : ℕ → A} {C : Type 0} {w : ℕ} where
  pub reads_first : {x : A} {k : List A} → Reads d h w (x ∷ k) → (h w ≡ x → Reads d h (suc w) k → C) → C
  reads_first {x} {k} r go =
      go (ap h (sym (add-zero w)) ∙ r.reads 0 (omega arith))
      (record { reads = λ q b. let place : suc w + q ≡ w + suc q = omega arith in ap h place ∙ r.reads (suc q) (omega arith) })

  -- n elements, one more, and the rest
  pub reads_apart : (l : List A) {x : A} {k : List A} {n : ℕ} → length l ≡ n → Reads d h w (l ++ x ∷ k)
      → (Reads d h w l → h (w + n) ≡ x → Reads d h (suc (w + n)) k → C) → C
  reads_apart l {x} {k} {n} e r go =
      let all = length-append l (x ∷ k) in
      go (record { reads = λ q b. r.reads q (omega arith) ∙ get_or-append l (x ∷ k) d q b })
      (ap (λ (m : ℕ). h (w + m)) (sym e) ∙ r.reads (length l) (omega arith) ∙ get_or-append_seam l x k d)
      (record {
        reads = λ q b.
            let place : suc (w + n) + q ≡ w + (length l + suc q) = omega arith in
            ap h place ∙ r.reads (length l + suc q) (omega arith) ∙ get_or-append-add l (x ∷ k) (suc q) d;
      })
