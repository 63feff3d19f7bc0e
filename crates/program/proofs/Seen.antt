-- What the rules see of an instruction that a `_ =>` arm takes. Assumes nothing.
--     own_plain, own_alone   a local instruction is no opener or closer, and makes no access
--     keys_beside            the keys of a `_ =>` arm beside all accesses, openers and closers
--     unnamed_local          an instruction of such an arm
use Prim.Native.Nat.{ℕ, zero, suc}
use mathlib.Core.Path.{◌≡◌, refl, sym, ap, subst}
use mathlib.Core.Bool.{Bool, true, ◌&&◌, not, true≢false, and-eq-true_iff}
use mathlib.Core.List.{List, [], ◌∷◌}
use mathlib.Core.Logic.{inl, inr}
use lib.Dec.{leb}
use lib.ListN.{length}
use denote.Enum.Declared.{tag_of, variants}
use types.Run.{OneOf}
use Rattle.program.specs.View.{own, view_of, none, access_in, access_of, form_in, form_of, Plain}
use Rattle.program.specs.Choice.{choose}
use Rattle.program.specs.Internal.Seen.{Seen, seen_local, seen_read, seen_write, seen_take, seen_give, seen_if, seen_else, seen_while, seen_again, seen_atomic, seen_end, seen}
use Rattle.program.specs.declared.instruction.Instruction.{Instruction}
use Rattle.program.specs.declared.instruction.Instruction.TheVariants.{Read, Write, Take, Give, If, Else, While, Again, Atomic, End}
use Rattle.program.specs.contracts.instruction.Instruction.{the_type}

module _ (i : Instruction) (e : view_of i ≡ own) where
  pub own_plain : form_of i ≡ Plain
  unfolding form_of
  own_plain = ap form_in e

  pub own_alone : access_of i ≡ none
  unfolding access_of
  own_alone = ap access_in e

-- what holds of each key of an arm holds of the tag that is one of them
unfoldable all_keys : (ℕ → Bool) → List ℕ → Bool
all_keys test [] = true
all_keys test (k ∷ ks) = test k && all_keys test ks

one_of_some : (test : ℕ → Bool) (x k : ℕ) (ks : List ℕ) → OneOf (k ∷ ks) x → all_keys test (k ∷ ks) ≡ true → test x ≡ true
unfolding all_keys
one_of_some test x k [] e all = subst (λ (y : ℕ). test y ≡ true) (sym e) ((and-eq-true_iff (test k) true).0 all).0
one_of_some test x k (k' ∷ ks) (inl e) all =
    subst (λ (y : ℕ). test y ≡ true) (sym e) ((and-eq-true_iff (test k) (all_keys test (k' ∷ ks))).0 all).0
one_of_some test x k (k' ∷ ks) (inr later) all = one_of_some test x k' ks later ((and-eq-true_iff (test k) (all_keys test (k' ∷ ks))).0 all).1

one_of_all : (test : ℕ → Bool) (x : ℕ) (ks : List ℕ) → OneOf ks x → all_keys test ks ≡ true → test x ≡ true
one_of_all test x [] h all = absurd h
one_of_all test x (k ∷ ks) h all = one_of_some test x k ks h all

-- the tags of accesses, openers and closers, and the keys of a `_ =>` arm beside them all
abbrev is_named : ℕ → Bool
is_named k = leb 5 k && leb k 14

unfoldable keys_from : (n k : ℕ) → List ℕ
keys_from zero k = []
keys_from (suc n) k = choose (is_named k) (keys_from n (suc k)) (k ∷ keys_from n (suc k))

unfoldable pub keys_beside : List ℕ
unfolding keys_from
keys_beside = keys_from (length (variants the_type)) 0

pub unnamed_local : (i : Instruction) → OneOf keys_beside (tag_of the_type i) → (form_of i ≡ Plain) × (access_of i ≡ none)
unfolding keys_beside all_keys
unnamed_local i h = cases i (seen i) (one_of_all (λ k. not (is_named k)) (tag_of the_type i) keys_beside h refl)
  where
    cases : (i : Instruction) → Seen i → not (is_named (tag_of the_type i)) ≡ true → (form_of i ≡ Plain) × (access_of i ≡ none)
    cases i (seen_local rs is_own) e = (own_plain i is_own, own_alone i is_own)
    cases (Read a v) seen_read e = absurd (true≢false (sym e))
    cases (Write a v) seen_write e = absurd (true≢false (sym e))
    cases (Take k) seen_take e = absurd (true≢false (sym e))
    cases (Give k) seen_give e = absurd (true≢false (sym e))
    cases (If a n) seen_if e = absurd (true≢false (sym e))
    cases (Else n) seen_else e = absurd (true≢false (sym e))
    cases (While a n) seen_while e = absurd (true≢false (sym e))
    cases (Again n) seen_again e = absurd (true≢false (sym e))
    cases (Atomic a n) seen_atomic e = absurd (true≢false (sym e))
    cases End seen_end e = absurd (true≢false (sym e))
