-- Laws of answers (specs/Answer.antt). Assumes nothing.
--     fine_inj, refused_inj      what is answered, and what refuses, is one
--     fine_parts                 ... and of a pair that is answered each part
--     bind_assoc                 going on twice
--     bind_ext, require_ext      two ways to go on that agree wherever the answer is fine, the test holds
--     require_bind               going on after a test
--     bind_inv, require_inv, none_inv
--                                what a fine answer went on from: an answer, a test, a search that found nothing
--     bind_on, require_on        a fine answer, a test that holds, goes on
--     Holds                      what is answered has a property
--     holds_fine, holds_map      ... of a fine answer; ... and so a weaker one
--     bind_holds, bind_any, require_holds
--                                ... after going on, from a property of what was answered before, and from none; after a test
use Prim.Native.Nat.{ℕ}
use mathlib.Core.Path.{◌≡◌, refl, ◌∙◌, ap, subst}
use mathlib.Core.Bool.{Bool, true, false}
use Rattle.program.specs.Answer.{Answer, ◌>>=◌, require, require_none}
use Rattle.std.specs.Prelude.{Option, Some, None, Ok, Err}
use Rattle.program.specs.declared.refusal.Refusal.{Refusal}
use Rattle.program.proofs.Differ.{differ}

pub fine_inj : {A : Type 0} (a b : A) → ◌≡◌ {A = Answer A} (Ok a) (Ok b) → a ≡ b
fine_inj a b e = cc

pub fine_parts : {A B : Type 0} (x y : A × B) → ◌≡◌ {A = Answer (A × B)} (Ok x) (Ok y) → (x.0 ≡ y.0) × (x.1 ≡ y.1)
fine_parts {A = A} {B = B} x y e = (ap (λ (z : A × B). z.0) (fine_inj x y e), ap (λ (z : A × B). z.1) (fine_inj x y e))

pub refused_inj : {A : Type 0} (r q : Refusal) → ◌≡◌ {A = Answer A} (Err r) (Err q) → r ≡ q
refused_inj r q e = cc

-- ---- going on

pub bind_assoc : {A B C : Type 0} (m : Answer A) (f : A → Answer B) (g : B → Answer C) → ((m >>= f) >>= g) ≡ (m >>= λ a. f a >>= g)
bind_assoc (Ok a) f g = refl
bind_assoc (Err r) f g = refl

pub require_bind : {A B : Type 0} (ok : Bool) (r : Refusal) (m : Answer A) (f : A → Answer B)
    → (require ok r m >>= f) ≡ require ok r (m >>= f)
require_bind true r m f = refl
require_bind false r m f = refl

pub bind_ext : {A B : Type 0} (m : Answer A) (f g : A → Answer B) → ((a : A) → m ≡ Ok a → f a ≡ g a) → (m >>= f) ≡ (m >>= g)
bind_ext (Ok a) f g h = h a refl
bind_ext (Err r) f g h = refl

pub require_ext : {A : Type 0} (ok : Bool) (r : Refusal) (m n : Answer A) → (ok ≡ true → m ≡ n) → require ok r m ≡ require ok r n
require_ext true r m n h = h refl
require_ext false r m n h = refl

-- ---- from a fine answer back

pub bind_inv : {A B C : Type 0} (m : Answer A) (f : A → Answer B) {b : B} → (m >>= f) ≡ Ok b
    → ((a : A) → m ≡ Ok a → f a ≡ Ok b → C) → C
bind_inv (Ok a) f e k = k a refl e
bind_inv (Err r) f e k = differ cc

pub require_inv : {A C : Type 0} (ok : Bool) (r : Refusal) (m : Answer A) {a : A} → require ok r m ≡ Ok a
    → (ok ≡ true → m ≡ Ok a → C) → C
require_inv true r m e k = k refl e
require_inv false r m e k = differ cc

pub none_inv : {A C : Type 0} (found : Option ℕ) (r : ℕ → Refusal) (m : Answer A) {a : A} → require_none found r m ≡ Ok a
    → (found ≡ None → m ≡ Ok a → C) → C
none_inv None r m e k = k refl e
none_inv (Some d) r m e k = differ cc

-- ---- to a fine answer

pub bind_on : {A B : Type 0} (m : Answer A) (f : A → Answer B) {a : A} {n : Answer B} → m ≡ Ok a → f a ≡ n → (m >>= f) ≡ n
bind_on {A = A} m f e e' = ap (λ (m : Answer A). m >>= f) e ∙ e'

pub require_on : {A : Type 0} (ok : Bool) (r : Refusal) (m : Answer A) {n : Answer A} → ok ≡ true → m ≡ n → require ok r m ≡ n
require_on ok r m e e' = ap (λ (ok : Bool). require ok r m) e ∙ e'

-- ---- properties

-- what is answered has a property
abbrev pub Holds : {A : Type 0} → (A → Type 0) → Answer A → Type 0
Holds P (Ok a) = P a
Holds P (Err r) = Unit

pub holds_fine : {A : Type 0} (P : A → Type 0) (m : Answer A) (a : A) → Holds P m → m ≡ Ok a → P a
holds_fine P (Ok x) a h e = subst P (fine_inj x a e) h
holds_fine P (Err r) a h e = differ cc

pub holds_map : {A : Type 0} (P Q : A → Type 0) (m : Answer A) → Holds P m → ((a : A) → P a → Q a) → Holds Q m
holds_map P Q (Ok a) h f = f a h
holds_map P Q (Err r) h f = tt

-- a property of what is answered, from one of what was answered before
pub bind_holds : {A B : Type 0} (P : A → Type 0) (Q : B → Type 0) (m : Answer A) (f : A → Answer B)
    → Holds P m → ((a : A) → P a → Holds Q (f a)) → Holds Q (m >>= f)
bind_holds P Q (Ok a) f h g = g a h
bind_holds P Q (Err r) f h g = tt

pub bind_any : {A B : Type 0} (Q : B → Type 0) (m : Answer A) (f : A → Answer B) → ((a : A) → Holds Q (f a)) → Holds Q (m >>= f)
bind_any Q (Ok a) f g = g a
bind_any Q (Err r) f g = tt

pub require_holds : {A : Type 0} (P : A → Type 0) (ok : Bool) (r : Refusal) (m : Answer A) → Holds P m → Holds P (require ok r m)
require_holds P true r m h = h
require_holds P false r m h = tt
