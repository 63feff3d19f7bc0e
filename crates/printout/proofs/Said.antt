-- Laws of words with a blank after each: what was said word by word is the line. Assumes nothing.
--     blanked_append    the words of two lists, one after the other
--     words_next        one item's words more
--     line_of_more, line_of_several
--                       a line by its first word; by several words before the others
--     line_of_blanked   the line: its last word's blank gives way to the newline
--     line_written_same the same line at the buffer's start, said another way
use Rattle.std.proofs.Common.{◌≡◌, refl, sym, ap, ◌∙◌, ℕ, ◌+◌, ◌-◌, ◌<◌, List, [], ◌∷◌, ◌++◌, length, get_or, take, flat_map, append_assoc, append-nil, add-one, take-suc, arith, length-append}
use Rattle.std.proofs.lemmas.Grind.{common_steps, flat_map-append}
use Rattle.printout.specs.Text.{ascii, spaced, line_of}
use Rattle.printout.specs.Internal.Writing.{blanked, ended, WrittenLine}

pub blanked_append : (ws vs : List (List ℕ)) → blanked (ws ++ vs) ≡ blanked ws ++ blanked vs
unfolding blanked
blanked_append [] vs = refl
blanked_append (w ∷ ws) vs = rw (blanked_append ws vs) (sym (append_assoc (ended w 32) (blanked ws) (blanked vs)))

pub words_next : {A : Type 0} (words : A → List (List ℕ)) (xs : List A) (i : ℕ) (d : A) → i < length xs
    → blanked (flat_map words (take (i + 1) xs)) ≡ blanked (flat_map words (take i xs)) ++ blanked (words (get_or xs i d))
words_next words xs i d h = rw (add-one, take-suc xs i d, flat_map-append, append-nil) (blanked_append (flat_map words (take i xs)) (words (get_or xs i d)))

-- a line is its first word with a blank, then the line of the others
pub line_of_more : (w v : List ℕ) (vs : List (List ℕ)) → line_of (w ∷ v ∷ vs) ≡ ended w 32 ++ line_of (v ∷ vs)
unfolding ended line_of spaced ascii
line_of_more w v vs = append_assoc (w ++ (32 ∷ [])) (spaced (v ∷ vs)) (10 ∷ [])

-- several words of a line, and the line of the others
pub line_of_several : (ws : List (List ℕ)) (v : List ℕ) (vs : List (List ℕ)) → line_of (ws ++ v ∷ vs) ≡ blanked ws ++ line_of (v ∷ vs)
unfolding blanked
line_of_several [] v vs = refl
line_of_several (w ∷ []) v vs = line_of_more w v vs ∙ ap (λ (z : List ℕ). z ++ line_of (v ∷ vs)) (sym (append-nil (ended w 32)))
line_of_several (w ∷ u ∷ ws) v vs =
    line_of_more w u (ws ++ v ∷ vs)
    ∙ ap (λ (z : List ℕ). ended w 32 ++ z) (line_of_several (u ∷ ws) v vs)
    ∙ sym (append_assoc (ended w 32) (blanked (u ∷ ws)) (line_of (v ∷ vs)))

blanked_spaced : (w : List ℕ) (ws : List (List ℕ)) → blanked (w ∷ ws) ≡ spaced (w ∷ ws) ++ 32 ∷ []
unfolding blanked ended spaced ascii
blanked_spaced w [] = rw append_assoc refl
blanked_spaced w (v ∷ vs) = rw (blanked_spaced v vs) (simp append_assoc)

all_but_last : (s : List ℕ) (b : ℕ) → take (length (s ++ b ∷ []) - 1) (s ++ b ∷ []) ≡ s
all_but_last s b = grind (arith, length-append, common_steps)

pub line_of_blanked : (w : List ℕ) (ws : List (List ℕ)) → take (length (blanked (w ∷ ws)) - 1) (blanked (w ∷ ws)) ++ 10 ∷ [] ≡ line_of (w ∷ ws)
unfolding line_of
line_of_blanked w ws = rw (blanked_spaced w ws, all_but_last (spaced (w ∷ ws)) 32) refl

-- the same line, said another way
pub line_written_same : {x y k l : List ℕ} {q : ℕ} → x ≡ y → WrittenLine x k l q → WrittenLine y k l q
line_written_same e f = rw (← e) f
