-- Standing inside a block, and uninterrupted lists (the standard, "Inside a block").
use Rattle.std.specs.Prelude.{◌≡◌, ℕ, suc, ◌+◌, ◌<◌, Bool, false, ◌&&◌, ◌||◌, ◌≢◌, List, [], ◌∷◌, nat_le, nat_lt}
use Rattle.program.specs.View.{form_of, Form, Plain, If, Else, While, Again, Atomic, End}
use Rattle.program.specs.Layout.{Program, code_of}
use Rattle.program.specs.declared.instruction.Instruction.{Instruction}
use Rattle.machine.specs.State.{State, thread_of, start}
use Rattle.machine.specs.Step.{outcome, step}
use Rattle.machine.specs.declared.thread.Outcome.TheVariants.{Moved}

-- "w < place ≤ w + n" for an instruction at place w that is an ATOMIC with distance n
unfoldable pub covers : ℕ → Form → ℕ → Bool
covers w Plain place = false
covers w (If a n) place = false
covers w (Else n) place = false
covers w (While a n) place = false
covers w (Again n) place = false
covers w (Atomic n) place = nat_lt w place && nat_le place (w + n)
covers w End place = false

-- for some instruction from place w on
unfoldable pub covered_from : ℕ → List Instruction → ℕ → Bool
covered_from w [] place = false
covered_from w (i ∷ is) place = covers w (form_of i) place || covered_from (suc w) is place

-- "A thread stands inside a block"
unfoldable pub inside : Program → State → ℕ → Bool
inside p s t = covered_from 0 (code_of p t) (thread_of s t).place

-- no thread of the program but this one stands inside a block
unfoldable pub OthersOutside : Program → State → ℕ → Type 0
OthersOutside p s t = (u : ℕ) → u < p.threads → u ≢ t → inside p s u ≡ false

-- "after the whole list no thread stands inside a block"
unfoldable pub NobodyInside : Program → State → Type 0
NobodyInside p s = (u : ℕ) → u < p.threads → inside p s u ≡ false

-- "each of its entries moves and in the state before each entry no thread but that entry's own stands inside a block"
unfoldable pub UninterruptedFrom : Program → State → List ℕ → Type 0
UninterruptedFrom p s [] = Unit {0}
UninterruptedFrom p s (t ∷ ts) = (outcome p t s ≡ Moved) × OthersOutside p s t × UninterruptedFrom p (step p t s) ts

-- "A list is uninterrupted if, run from the start, .."
unfoldable pub Uninterrupted : Program → List ℕ → Type 0
Uninterrupted p ts = UninterruptedFrom p (start p) ts
