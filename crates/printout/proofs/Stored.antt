-- Laws of `Laid`: what is stored piece by piece is the whole. Assumes nothing.
--     laid_none, laid_byte      nothing stored; one byte
--     laid_part                 a part of the buffer that is copied over
--     laid_same                 the same bytes to the same position, said another way
--     laid_then, laid_more      what is stored one after the other; one byte more
--     word_ended                a word, and the byte that ends it stored after it
--     blanked_one, said_some    a word's length, its blank counted; a line in which a word was said has a byte or more
--     end_replaced              a word with its blank, and the blank stored over
use Rattle.std.proofs.Common.{◌≡◌, refl, sym, ap, ◌∙◌, ℕ, ◌+◌, ◌≤◌, ◌<◌, List, [], ◌∷◌, ◌++◌, length, take, drop, set, append_assoc, append-nil, add-zero, drop-drop, set-set, arith, length-append}
use borrow.Rule.Slice.PartMut.{put_mid}
use Rattle.std.proofs.lemmas.List.Edits.{sets, sets-eq}
use Rattle.program.proofs.Lists.{sets-append}
use Rattle.printout.specs.Internal.Writing.{Laid, LaidWord, ended, blanked}

-- nothing stored
pub laid_none : (at : ℕ) (l : List ℕ) → Laid [] at l l at
laid_none at l = record { stored = refl; ends = sym (add-zero at) }

-- one byte stored
pub laid_byte : (b at : ℕ) (l : List ℕ) → Laid (b ∷ []) at l (set l at b) (at + 1)
laid_byte b at l = record { stored = refl; ends = refl }

-- a part of the buffer that is copied over
pub laid_part : (bytes copy l : List ℕ) (at k p : ℕ) → copy ≡ bytes → k ≡ length bytes → p ≡ at + length bytes → p ≤ length l → Laid bytes at l (put_mid at k l copy) p
laid_part bytes copy l at k p same size ends fits = rw (same, size) record {
  stored = ap (λ (z : List ℕ). take at l ++ (bytes ++ z)) (drop-drop (length bytes) at l) ∙ sym (append_assoc (take at l) bytes (drop (at + length bytes) l)) ∙ sym (sets-eq bytes l at (omega arith));
  ends = ends;
}

-- the same bytes to the same position, said another way
pub laid_same : {x y k l : List ℕ} {at p q : ℕ} → Laid x at k l p → x ≡ y → p ≡ q → Laid y at k l q
laid_same {k = k} {l} {at} {p} {q} f e h = rw (← e, ← h) f

-- what is stored one after the other
pub laid_then : {x y k l m : List ℕ} {at p q : ℕ} → Laid x at k l p → Laid y p l m q → Laid (x ++ y) at k m q
laid_then {x} {y} {k} {l} {m} {at} {p} {q} f g = record {
  stored = g.stored ∙ ap (λ (z : List ℕ). sets z p y) f.stored ∙ ap (λ (n : ℕ). sets (sets k at x) n y) f.ends ∙ sym (sets-append k at x y);
  ends = omega (arith, f.ends, g.ends, length-append x y);
}

-- one byte more
pub laid_more : {x k l : List ℕ} {at p : ℕ} (b : ℕ) → Laid x at k l p → Laid (x ++ b ∷ []) at k (set l p b) (p + 1)
laid_more {l = l} {p = p} b f = laid_then f (laid_byte b p l)

-- a word, and the byte that ends it stored after it
pub word_ended : {w k l : List ℕ} {at p : ℕ} (e : ℕ) → Laid w at k l p → LaidWord w e at k (set l p e) (p + 1)
unfolding ended
word_ended e f = record { laid = laid_more e f }

-- a word's length, its blank counted; a line in which a word was said has a byte or more
pub blanked_one : (w : List ℕ) → length (blanked (w ∷ [])) ≡ length w + 1
unfolding blanked ended
blanked_one w = ap length (append-nil (w ++ 32 ∷ [])) ∙ length-append w (32 ∷ [])

pub said_some : (s w l : List ℕ) → l ≡ s ++ blanked (w ∷ []) → 0 < length l
said_some s w l e = omega (arith, ap length e, length-append s (blanked (w ∷ [])), blanked_one w)

-- a word with its blank, and the blank stored over
pub end_replaced : {w k l : List ℕ} {at p : ℕ} (e q : ℕ) → q ≡ at + length w → Laid (blanked (w ∷ [])) at k l p → LaidWord w e at k (set l q e) p
unfolding blanked ended
end_replaced {w} {k} {l} {at} {p} e q last f =
    let before : l ≡ set (sets k at w) (at + length w) 32 = f.stored ∙ ap (sets k at) (append-nil (w ++ 32 ∷ [])) ∙ sets-append k at w (32 ∷ []) in
    record {
      laid = record {
        stored = ap (λ (n : ℕ). set l n e) last ∙ ap (λ (z : List ℕ). set z (at + length w) e) before ∙ set-set (sets k at w) (at + length w) 32 e ∙ sym (sets-append k at w (e ∷ []));
        ends = omega (arith, f.ends, blanked_one w, length-append w (e ∷ []));
      };
    }
