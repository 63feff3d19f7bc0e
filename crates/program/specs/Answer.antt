-- Answers: what is answered, or the refusal. "First offence deciding" (the standard, "Who can bring a number about"): an offence ends
-- what is read or judged, and nothing after it counts.
use Rattle.std.specs.Prelude.{ℕ, Bool, Option, Some, None, Result, Ok, Err}
use Rattle.program.specs.Choice.{choose}
use Rattle.program.specs.declared.refusal.Refusal.{Refusal}

abbrev pub Answer : Type 0 → Type 0
Answer A = Result A Refusal

-- go on with what was answered, or hand the refusal up
infixl 55 ◌>>=◌
abbrev pub ◌>>=◌ : {A B : Type 0} → Answer A → (A → Answer B) → Answer B
(Ok a) >>= f = f a
(Err r) >>= f = Err r

infixl 55 ◌>>◌
abbrev pub ◌>>◌ : {A B : Type 0} → (A → B) → A → B
f >> rest = f rest

-- go on if the test holds, else the refusal
abbrev pub require : {A : Type 0} → Bool → Refusal → Answer A → Answer A
require ok r rest = choose ok rest (Err r)

-- go on if there is no offence, else the refusal at the first one's offset or index
abbrev pub require_none : {A : Type 0} → Option ℕ → (ℕ → Refusal) → Answer A → Answer A
require_none None r rest = rest
require_none (Some d) r rest = Err (r d)
