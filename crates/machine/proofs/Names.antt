-- How often a list names a thread. Assumes nothing.
--     names_append    two lists, one after the other
--     names_next      one entry more
--     names_part      ... a part more
--     names_rest      ... and what is left
--     one_at_most     an entry names a thread once, or not
--     test_byte       ... as a byte
--     names_parts     a list by parts of one length
--     names_at_most   no more often than the list is long
--     names_first     nor are its first entries
use Rattle.std.proofs.Common.{◌≡◌, ℕ, zero, suc, ◌+◌, ◌-◌, ◌*◌, ◌<◌, ◌≤◌, Bool, true, false, eqb, List, [], ◌∷◌, ◌++◌, length, get_or, take, drop, sym, refl, ap, ◌∙◌, add-one, arith, take-suc, take-append-drop, take-add, drop-drop}
use Rattle.std.proofs.Math.Nat.{zero-mul, suc-mul}
use mir.Val.{bool_byte}
use Rattle.std.proofs.lemmas.List.Sums.{sum_by-cons}
use Rattle.std.specs.List.{sum_by}
use Rattle.std.specs.Simd.{first_chunks}
use Rattle.program.proofs.Lists.{take_rest}
use Rattle.program.specs.Choice.{choose}
use Rattle.machine.specs.Run.{times_named}

pub names_append : (t : ℕ) (xs ys : List ℕ) → times_named t (xs ++ ys) ≡ times_named t xs + times_named t ys
unfolding times_named
names_append t [] ys = omega arith
names_append t (x ∷ xs) ys = let e = names_append t xs ys in omega (arith, e)

pub names_next : (t : ℕ) (list : List ℕ) (i : ℕ) → i < length list
    → times_named t (take (i + 1) list) ≡ times_named t (take i list) + choose (eqb (get_or list i 0) t) 1 0
unfolding times_named
names_next t list i h =
    ap (times_named t) {x = take (i + 1) list} {y = take i list ++ (get_or list i 0 ∷ [])} (rw add-one (take-suc list i 0 h))
    ∙ names_append t (take i list) (get_or list i 0 ∷ [])
    ∙ omega arith

pub names_part : (t i n : ℕ) (list : List ℕ) → times_named t (take (i + n) list) ≡ times_named t (take i list) + times_named t (take n (drop i list))
names_part t i n list = ap (times_named t) {x = take (i + n) list} {y = take i list ++ take n (drop i list)} (take-add i n list) ∙ names_append t (take i list) (take n (drop i list))

pub names_rest : (t i : ℕ) (list : List ℕ) → times_named t list ≡ times_named t (take i list) + times_named t (take (length list - i) (drop i list))
names_rest t i list =
    ap (times_named t) {x = list} {y = take i list ++ drop i list} (sym (take-append-drop i list))
    ∙ names_append t (take i list) (drop i list)
    ∙ ap (λ (l : List ℕ). times_named t (take i list) + times_named t l) (sym (take_rest i list))

pub one_at_most : (b : Bool) → choose b 1 0 ≤ 1
one_at_most true = omega arith
one_at_most false = omega arith

-- a test as a byte, as `u8::from` makes it
pub test_byte : (b : Bool) → (bool_byte b ≡ choose b 1 0) × (bool_byte b ≤ 1)
test_byte true = (refl, omega arith)
test_byte false = (refl, omega arith)

pub names_at_most : (t : ℕ) (list : List ℕ) → times_named t list ≤ length list
unfolding times_named
names_at_most t [] = omega arith
names_at_most t (x ∷ xs) = omega (arith, names_at_most t xs, one_at_most (eqb x t))

pub names_first : (t i : ℕ) (list : List ℕ) → times_named t (take i list) ≤ length list
names_first t i list = omega (arith, names_rest t i list, names_at_most t list)

-- what is left after the first k parts, and these
pub names_parts : (t n k : ℕ) (list : List ℕ) → times_named t (drop (k * n) list) + sum_by (times_named t) (first_chunks n k list) ≡ times_named t list
names_parts t n zero list = rw (zero-mul n) (omega arith)
names_parts t n (suc k) list =
    let whole : times_named t list ≡ times_named t (take n list) + times_named t (drop n list) =
    ap (times_named t) {x = list} {y = take n list ++ drop n list} (sym (take-append-drop n list)) ∙ names_append t (take n list) (drop n list) in
    let more : n + k * n ≡ suc k * n = omega (arith, suc-mul k n) in
    let left : drop (k * n) (drop n list) ≡ drop (suc k * n) list = drop-drop (k * n) n list ∙ ap (λ (i : ℕ). drop i list) more in
    let rest = rw left at (names_parts t n k (drop n list)) in
    omega (arith, whole, rest, sum_by-cons (times_named t) (take n list) (first_chunks n k (drop n list)))
