-- The labels of typed code. Assumes nothing.
--     leads_exactly   code that ends with a lock set and a prefix may go on at the label that says so
--     begun           typed code is begun as its labels say
--     flow            and each of its moves follows
use Rattle.std.proofs.Common.{ℕ, ◌+◌, ◌≡◌, refl, sym, subst}
use Rattle.atomicity.specs.Atomicity.{composition, join, closure}
use Rattle.atomicity.specs.declared.Atomicity.{Atomicity}
use Rattle.atomicity.specs.declared.Atomicity.TheVariants.{Both}
use Rattle.judge.specs.Discipline.{access_mover, mover_of, atomicity_of}
use Rattle.judge.specs.Rules.{Legal, legal_none, Typed, typed_done, typed_plain, typed_choice, typed_loop, typed_block}
use Rattle.judge.specs.declared.lock_set.LockSet.{LockSet}
use Rattle.program.specs.View.{Access, none, access_of}
use Rattle.program.specs.Code.{Code, size}
use Rattle.program.specs.Layout.{Program}
use Rattle.program.specs.declared.instruction.Instruction.{Instruction}
use Rattle.program.specs.declared.instruction.Instruction.TheVariants.{If, Else, While, Again, Atomic, End}
use Rattle.reduction.specs.Sequence.{All, all_nil, all_cons}
use Rattle.reduction.proofs.Sequence.{all_append}
use Rattle.soundness.specs.Internal.Flow.{Label, label, labelled, Follows, Leads}
use Rattle.soundness.specs.Internal.Labelled.{Condition, always, edge, begins, edges}
use Rattle.soundness.specs.Internal.Prefix.{Prefix, behind, entered, Below, Proper, Goes}
use Rattle.soundness.proofs.Prefix.{behind_both, behind_behind, below_refl, below_behind, below_first, below_second, below_turn, proper_below, goes_behind, goes_in, goes_out, proper_entered}

-- ---- the end of code

pub leads_exactly : (s : LockSet) (m : Prefix) → Leads s m (label s m)
leads_exactly s m = record { same_locks = refl; below = below_refl m }

leads_below : {s : LockSet} {m n : Prefix} → Below m n → Leads s m (label s n)
leads_below b = record { same_locks = refl; below = b }

leads_then : {s : LockSet} {to : Label} (m : Prefix) (a b : Atomicity) → Leads s (behind m (composition a b)) to → Leads s (behind (behind m a) b) to
leads_then m a b k = rw (behind_behind m a b) k

proper_then : (m : Prefix) (a b : Atomicity) → Proper (behind m (composition a b)) → Proper (behind (behind m a) b)
proper_then m a b k = rw (behind_behind m a b) k

proper_first : (m : Prefix) (a b : Atomicity) → Proper (behind m (composition a b)) → Proper (behind m a)
proper_first m a b k = proper_below (below_behind (behind m a) b) (proper_then m a b k)

module _ {p : Program} {t : ℕ} where
  -- where the code begins
  pub begun : {s s' : LockSet} {c : Code} {a : Atomicity} (d : Typed p t s c s' a) (m : Prefix) (next : Label)
      → Leads s' (behind m a) next → Leads s m (begins (labelled d m) next)
  unfolding labelled
  begun {s} typed_done m next exit = subst (λ (n : Prefix). Leads s n next) (behind_both m) exit
  begun {s} (typed_plain f l d) m next exit = leads_exactly s m
  begun {s} (typed_choice d₁ d₂ d) m next exit = leads_exactly s m
  begun {s} (typed_loop {x} d₁ d) m next exit = leads_below (below_behind m (closure x))
  begun {s} (typed_block d₁ n stated d) m next exit = leads_exactly s m

  -- ---- one move

  -- of an opener or closer, which accesses nothing: it keeps the lock set, and is B
  silent : (i : Instruction) (o : Condition) {s : LockSet} {m : Prefix} {to : Label} → access_of i ≡ none → s ≡ to.locks → Goes Both m to.prefix
      → Follows p t (edge i (label s m) o to)
  unfolding mover_of access_mover
  silent i o {s} {m} {to} e k g = record {
    legal = subst (Legal p t (access_of i) s) k (rw e legal_none);
    goes = subst (λ (x : Access). Goes (access_mover p t s x) m to.prefix) (sym e) g;
  }

  -- one that goes on in the same block
  goes_on_silent : (i : Instruction) (o : Condition) {s : LockSet} {m : Prefix} {to : Label} → access_of i ≡ none → Proper m → Leads s m to
      → Follows p t (edge i (label s m) o to)
  goes_on_silent i o {m} e h k = silent i o e k.same_locks (goes_behind m (rw (behind_both m) k.below) (rw (behind_both m) h))

  -- a plain instruction
  straight_on : {i : Instruction} {s s' : LockSet} {m : Prefix} {to : Label} → Legal p t (access_of i) s s' → Proper (behind m (atomicity_of p t s i))
      → Leads s' (behind m (atomicity_of p t s i)) to → Follows p t (edge i (label s m) always to)
  unfolding atomicity_of
  straight_on {i} {s} {m} l h k = record { legal = subst (Legal p t (access_of i) s) k.same_locks l; goes = goes_behind m k.below h }

  -- ---- every move

  pub flow : {s s' : LockSet} {c : Code} {a : Atomicity} (d : Typed p t s c s' a) (m : Prefix) (next : Label)
      → Leads s' (behind m a) next → Proper (behind m a) → All (Follows p t) (edges (labelled d m) next)
  unfolding labelled edges access_of
  flow typed_done m next exit proper = all_nil
  flow {s} (typed_plain {i} {a} f l d) m next exit proper =
      let x = atomicity_of p t s i in
      all_cons (straight_on l (proper_first m x a proper) (begun d (behind m x) next (leads_then m x a exit)))
      (flow d (behind m x) next (leads_then m x a exit) (proper_then m x a proper))
  flow {s} (typed_choice {r} {a} {b} {s'} {x} {y} {z} d₁ d₂ d) m next exit proper =
      let n = behind m (join x y) in
      let proper₀ = proper_first m (join x y) z proper in
      let proper₁ = proper_below (below_first m x y) proper₀ in
      let proper₂ = proper_below (below_second m x y) proper₀ in
      let here = proper_below (below_behind m x) proper₁ in
      let exit₁ = leads_exactly s' (behind m x) in
      let exit₂ : Leads s' (behind m y) (label s' n) = leads_below (below_second m x y) in
      let exit₃ = leads_then m (join x y) z exit in
      all_cons (goes_on_silent (If r (size a + 1)) _ refl here (begun d₁ m _ exit₁))
      (all_cons (goes_on_silent (If r (size a + 1)) _ refl here (begun d₂ m _ exit₂))
      (all_cons (goes_on_silent (Else (size b + 1)) _ refl proper₁ (leads_below (below_first m x y)))
      (all_cons (goes_on_silent End _ refl proper₀ (begun d n next exit₃))
      (all_append (flow d₁ m _ exit₁ proper₁)
      (all_append (flow d₂ m _ exit₂ proper₂)
      (flow d n next exit₃ (proper_then m (join x y) z proper)))))))
  flow {s} (typed_loop {r} {a} {x} {z} d₁ d) m next exit proper =
      let n = behind m (closure x) in
      let proper₀ = proper_first m (closure x) z proper in
      let proper₁ = proper_below (below_turn m x) proper₀ in
      let exit₁ = leads_exactly s (behind n x) in
      let exit₂ = leads_then m (closure x) z exit in
      all_cons (goes_on_silent (While r (size a + 1)) _ refl proper₀ (begun d₁ n _ exit₁))
      (all_cons (goes_on_silent (While r (size a + 1)) _ refl proper₀ (begun d n next exit₂))
      (all_cons (goes_on_silent (Again (size a + 1)) _ refl proper₁ (leads_below (below_turn m x)))
      (all_append (flow d₁ n _ exit₁ proper₁)
      (flow d n next exit₂ (proper_then m (closure x) z proper)))))
  flow {s} (typed_block {n} {a} {s'} {x} {z} d₁ top stated d) m next exit proper =
      let proper₀ = proper_first m x z proper in
      let exit₁ = leads_exactly s' (behind (entered m) x) in
      let start₁ = begun d₁ (entered m) _ exit₁ in
      let start = begun d (behind m x) next (leads_then m x z exit) in
      all_cons (silent (Atomic n (size a + 1)) _ refl start₁.same_locks (goes_in m start₁.below (proper_below (below_behind m x) proper₀)))
      (all_cons (silent End _ refl start.same_locks (goes_out m x start.below proper₀))
      (all_append (flow d₁ (entered m) _ exit₁ (proper_entered m x top proper₀))
      (flow d (behind m x) next (leads_then m x z exit) (proper_then m x z proper))))
