-- What an instruction does in the walk is what the lock discipline and the atomicities say of it. Assumes nothing.
--     access_applied   a plain instruction, by the access that it makes
--     plain_effect     a plain instruction's effect is its access's
--     takes_from, gives_from
--                      an effect that adds or takes out a lock is a TAKE's or a GIVE's, of a lock that is not held or is
--     PartOf           a part that an entry opens
--     AfterCloser, Opened, StepOf, step_of
--                      what is so of the lock set and of nesting at an instruction, by its effect
use Rattle.std.proofs.Common.{ℕ, suc, ◌+◌, ◌<◌, ◌≡◌, refl, sym, ap, subst, Bool, true, false, not, List, ◌∷◌, length, set, Ok}
use Rattle.atomicity.specs.Atomicity.{report_byte, composition}
use Rattle.atomicity.specs.declared.Atomicity.{Atomicity}
use Rattle.atomicity.specs.declared.Atomicity.TheVariants as atomicity
use Rattle.atomicity.proofs.Laws.{then_both}
use Rattle.program.specs.View.{Access, none, reads, writes, takes, gives, access_of, form_of, statement_of, Form, Plain}
use Rattle.program.specs.Answer.{◌>>=◌, require}
use Rattle.program.specs.Layout.{Program}
use Rattle.program.specs.Limits.{entry_limit, lock_limit, variable_limit}
use Rattle.program.specs.Internal.Sound.{AccessBelow}
use Rattle.program.specs.Internal.WellFormed as Passing
use Rattle.program.specs.View as form
use Rattle.program.specs.declared.instruction.Instruction.{Instruction}
use Rattle.program.specs.declared.nesting.Entry.{Entry}
use Rattle.program.specs.declared.nesting.Entry.TheVariants as entry
use Rattle.program.specs.declared.refusal.Refusal.{Refusal}
use Rattle.program.specs.declared.refusal.Refusal.TheVariants as refusal
use Rattle.program.specs.declared.variable.Kind.{Kind}
use Rattle.program.specs.declared.variable.Kind.TheVariants.{Guarded, Own, Fixed, Open}
use Rattle.program.proofs.Answer.{Holds, require_holds}
use Rattle.program.proofs.Differ.{differ}
use Rattle.program.proofs.StructureTurn.{comes_to}
use Rattle.judge.specs.Discipline.{kind_at, permits, accessed_set, kind_atomicity, access_atomicity, access_mover}
use Rattle.judge.specs.LockSet.{holds, with_lock, without_lock}
use Rattle.judge.specs.Internal.Effect.{passing, access_effect, form_effect, effect_of}
use Rattle.judge.specs.Internal.Scan.{Carried, carried, applied}
use Rattle.judge.specs.declared.effect.Effect.{Effect}
use Rattle.judge.specs.declared.effect.Effect.TheVariants as effect
use Rattle.judge.specs.declared.frame.Frame.{Frame}
use Rattle.judge.specs.declared.frame.Part.{Part}
use Rattle.judge.specs.declared.frame.Part.TheVariants as part
use Rattle.judge.specs.declared.lock_set.LockSet.{LockSet}

-- an access that leaves the lock set, of atomicity b: B or A
data Passes : Atomicity → Type 0 where
  as_both : Passes atomicity.Both
  as_atomic : Passes atomicity.Atomic

kind_passes : (k : Kind) (races : Bool) → Passes (kind_atomicity k races)
kind_passes (Guarded g) races = as_both
kind_passes (Own g) races = as_both
kind_passes Fixed races = as_both
kind_passes Open true = as_atomic
kind_passes Open false = as_both

access_passes : (p : Program) (c v : ℕ) (is_write : Bool) → Passes (access_atomicity p c v is_write)
unfolding access_atomicity
access_passes p c v is_write = kind_passes (kind_at p v) _

module _ (d at : ℕ) (s : LockSet) (a : Atomicity) (fs : List Frame) (report : List ℕ) where
  -- what is carried on from an instruction of atomicity b that leads to the lock set t
  abbrev passed_to : Atomicity → LockSet → Carried
  passed_to b t = carried t (composition a b) fs (set report at (report_byte b))

  passing_applied : (b : Atomicity) → Passes b → applied (passing b) d at (carried s a fs report) ≡ Ok (passed_to b s)
  unfolding applied
  passing_applied _ as_both = ap (λ (x : Atomicity). Ok (carried s x fs (set report at 1))) (sym (then_both a))
  passing_applied _ as_atomic = refl

  required_applied : (ok : Bool) (r : Refusal) (e : Effect) (b : Atomicity) (t : LockSet)
      → applied e d at (carried s a fs report) ≡ Ok (passed_to b t)
      → (require ok r (Ok e) >>= λ e. applied e d at (carried s a fs report)) ≡ (require ok r (Ok t) >>= λ t. Ok (passed_to b t))
  required_applied true r e b t h = h
  required_applied false r e b t h = refl

  pub access_applied : (p : Program) (c : ℕ) (x : Access)
      → (access_effect p c d x s >>= λ e. applied e d at (carried s a fs report))
      ≡ (accessed_set p c d x s >>= λ t. Ok (passed_to (access_mover p c s x) t))
  unfolding access_effect accessed_set access_mover applied
  access_applied p c none = passing_applied atomicity.Both as_both
  access_applied p c (reads v) =
      let b = access_atomicity p c v false in
      required_applied (permits (kind_at p v) c s false) _ (passing b) b s (passing_applied b (access_passes p c v false))
  access_applied p c (writes v n) =
      let b = access_atomicity p c v true in
      required_applied (permits (kind_at p v) c s true) _ (passing b) b s (passing_applied b (access_passes p c v true))
  access_applied p c (takes k) = required_applied (not (holds s k)) _ (effect.Takes k) atomicity.Right (with_lock s k) refl
  access_applied p c (gives k) = required_applied (holds s k) _ (effect.Gives k) atomicity.Left (without_lock s k) refl

-- a plain instruction's effect is its access's
pub plain_effect : (p : Program) (c d : ℕ) (i : Instruction) (s : LockSet) → form_of i ≡ Plain → effect_of p c d i s ≡ access_effect p c d (access_of i) s
unfolding effect_of form_effect
plain_effect p c d i s e = rw e

-- ---- the lock that an effect adds or takes out

module _ (p : Program) (c d : ℕ) (s : LockSet) (k : ℕ) where
  -- an access that leaves the lock set adds none and takes none out
  allowed_takes_none : (ok : Bool) (r : Refusal) (b : Atomicity) → Passes b → require ok r (Ok (passing b)) ≡ Ok (effect.Takes k) → ⊥
  allowed_takes_none true r _ as_both e = differ cc
  allowed_takes_none true r _ as_atomic e = differ cc
  allowed_takes_none false r b h e = differ cc

  allowed_gives_none : (ok : Bool) (r : Refusal) (b : Atomicity) → Passes b → require ok r (Ok (passing b)) ≡ Ok (effect.Gives k) → ⊥
  allowed_gives_none true r _ as_both e = differ cc
  allowed_gives_none true r _ as_atomic e = differ cc
  allowed_gives_none false r b h e = differ cc

  taken_which : (j : ℕ) (held : Bool) (r : Refusal) → require (not held) r (Ok (effect.Takes j)) ≡ Ok (effect.Takes k) → (j ≡ k) × (held ≡ false)
  taken_which j true r e = differ cc
  taken_which j false r e = (cc, refl)

  given_which : (j : ℕ) (held : Bool) (r : Refusal) → require held r (Ok (effect.Gives j)) ≡ Ok (effect.Gives k) → (j ≡ k) × (held ≡ true)
  given_which j true r e = (cc, refl)
  given_which j false r e = differ cc

  access_takes : (x : Access) → access_effect p c d x s ≡ Ok (effect.Takes k) → (x ≡ takes k) × (holds s k ≡ false)
  unfolding access_effect
  access_takes none e = differ cc
  access_takes (reads v) e = absurd (allowed_takes_none (permits (kind_at p v) c s false) _ (access_atomicity p c v false) (access_passes p c v false) e)
  access_takes (writes v b) e = absurd (allowed_takes_none (permits (kind_at p v) c s true) _ (access_atomicity p c v true) (access_passes p c v true) e)
  access_takes (takes j) e = let h = taken_which j (holds s j) _ e in (ap takes h.0, subst (λ (m : ℕ). holds s m ≡ false) h.0 h.1)
  access_takes (gives j) e = absurd (neither (holds s j) e)
    where
      neither : (held : Bool) → require held (refusal.NotTaken d) (Ok (effect.Gives j)) ≡ Ok (effect.Takes k) → ⊥
      neither true q = differ cc
      neither false q = differ cc

  access_gives : (x : Access) → access_effect p c d x s ≡ Ok (effect.Gives k) → (x ≡ gives k) × (holds s k ≡ true)
  unfolding access_effect
  access_gives none e = differ cc
  access_gives (reads v) e = absurd (allowed_gives_none (permits (kind_at p v) c s false) _ (access_atomicity p c v false) (access_passes p c v false) e)
  access_gives (writes v b) e = absurd (allowed_gives_none (permits (kind_at p v) c s true) _ (access_atomicity p c v true) (access_passes p c v true) e)
  access_gives (takes j) e = absurd (neither (holds s j) e)
    where
      neither : (held : Bool) → require (not held) (refusal.Taken d) (Ok (effect.Takes j)) ≡ Ok (effect.Gives k) → ⊥
      neither true q = differ cc
      neither false q = differ cc
  access_gives (gives j) e = let h = given_which j (holds s j) _ e in (ap gives h.0, subst (λ (m : ℕ). holds s m ≡ true) h.0 h.1)

  form_takes : (f : Form) (stated : ℕ) (x : Access) → form_effect f stated (access_effect p c d x s) ≡ Ok (effect.Takes k) → (x ≡ takes k) × (holds s k ≡ false)
  unfolding form_effect
  form_takes Plain stated x e = access_takes x e
  form_takes (form.If a n) stated x e = differ cc
  form_takes (form.Else n) stated x e = differ cc
  form_takes (form.While a n) stated x e = differ cc
  form_takes (form.Again n) stated x e = differ cc
  form_takes (form.Atomic n) stated x e = differ cc
  form_takes form.End stated x e = differ cc

  form_gives : (f : Form) (stated : ℕ) (x : Access) → form_effect f stated (access_effect p c d x s) ≡ Ok (effect.Gives k) → (x ≡ gives k) × (holds s k ≡ true)
  unfolding form_effect
  form_gives Plain stated x e = access_gives x e
  form_gives (form.If a n) stated x e = differ cc
  form_gives (form.Else n) stated x e = differ cc
  form_gives (form.While a n) stated x e = differ cc
  form_gives (form.Again n) stated x e = differ cc
  form_gives (form.Atomic n) stated x e = differ cc
  form_gives form.End stated x e = differ cc

  pub takes_from : (i : Instruction) → effect_of p c d i s ≡ Ok (effect.Takes k) → (access_of i ≡ takes k) × (holds s k ≡ false)
  unfolding effect_of
  takes_from i e = form_takes (form_of i) (statement_of i) (access_of i) e

  pub gives_from : (i : Instruction) → effect_of p c d i s ≡ Ok (effect.Gives k) → (access_of i ≡ gives k) × (holds s k ≡ true)
  unfolding effect_of
  gives_from i e = form_gives (form_of i) (statement_of i) (access_of i) e

-- ---- the lock set and nesting at an instruction, by its effect

-- a part that an entry opens; a block's, whatever its ATOMIC states
pub data PartOf : Entry → Part → Type 0 where
  of_then : {w : ℕ} → PartOf (entry.Then w) part.Then
  of_else : {w : ℕ} {first : Atomicity} → PartOf (entry.Else w) (part.Else first)
  of_loop : {w n : ℕ} → PartOf (entry.Loop w n) part.Body
  of_block : {w stated : ℕ} → PartOf (entry.Block w) (part.Block stated)

-- before the instructions `is`, which begin at place q + 1, with the lock set s
module _ (q : ℕ) (is : List Instruction) (s : LockSet) where
  -- after the closer of entry e, with the entries es below it: an ELSE opens another, any other closer none
  abbrev pub AfterCloser : Entry → List Entry → Type 0
  AfterCloser (entry.Then w) es = (m : ℕ) × Passing.Passes (suc q) is (entry.Else m ∷ es)
  AfterCloser (entry.Else w) es = Passing.Passes (suc q) is es
  AfterCloser (entry.Loop w n) es = Passing.Passes (suc q) is es
  AfterCloser (entry.Block w) es = Passing.Passes (suc q) is es

  -- after an opener of a part: an entry more, for which there is room
  abbrev pub Opened : List Entry → Part → Type 0
  Opened es x = (e : Entry) × (length es < entry_limit) × PartOf e x × Passing.Passes (suc q) is (e ∷ es)

  -- a lock that is added is not held, one that is taken out is, and both are below the limit
  abbrev pub StepOf : List Entry → Effect → Type 0
  StepOf es effect.Nothing = Passing.Passes (suc q) is es
  StepOf es effect.Single = Passing.Passes (suc q) is es
  StepOf es (effect.Takes k) = (k < lock_limit) × (holds s k ≡ false) × Passing.Passes (suc q) is es
  StepOf es (effect.Gives k) = (k < lock_limit) × (holds s k ≡ true) × Passing.Passes (suc q) is es
  StepOf es (effect.Opens x) = Opened es x
  StepOf es effect.Closes = (e : Entry) × (below : List Entry) × (es ≡ e ∷ below) × AfterCloser e below

  module _ (es : List Entry) (h : Passing.Passes (suc q) is es) where
    passing_step : (b : Atomicity) → Passes b → StepOf es (passing b)
    passing_step _ as_both = h
    passing_step _ as_atomic = h

    takes_step : (k : ℕ) (r : Refusal) → k < lock_limit → (held : Bool) → holds s k ≡ held → Holds (StepOf es) (require (not held) r (Ok (effect.Takes k)))
    takes_step k r b true e = tt
    takes_step k r b false e = (b, e, h)

    gives_step : (k : ℕ) (r : Refusal) → k < lock_limit → (held : Bool) → holds s k ≡ held → Holds (StepOf es) (require held r (Ok (effect.Gives k)))
    gives_step k r b true e = (b, e, h)
    gives_step k r b false e = tt

    access_step : (p : Program) (c d : ℕ) (x : Access) → AccessBelow lock_limit variable_limit x → Holds (StepOf es) (access_effect p c d x s)
    unfolding access_effect
    access_step p c d none b = h
    access_step p c d (reads v) b =
        require_holds (StepOf es) (permits (kind_at p v) c s false) _ _ (passing_step (access_atomicity p c v false) (access_passes p c v false))
    access_step p c d (writes v n) b =
        require_holds (StepOf es) (permits (kind_at p v) c s true) _ _ (passing_step (access_atomicity p c v true) (access_passes p c v true))
    access_step p c d (takes k) b = takes_step k _ b (holds s k) refl
    access_step p c d (gives k) b = gives_step k _ b (holds s k) refl

  module _ (p : Program) (c d : ℕ) where
    closes_step : (i : Instruction) (es : List Entry) → Passing.Closes q (i ∷ is) es → Holds (StepOf es) (effect_of p c d i s)
    unfolding effect_of form_effect form_of statement_of
    closes_step _ _ (Passing.at_else_closer {n = n} {w = w} {es = es} e h) =
        (entry.Then w, es, refl, (w + n, subst (λ (x : ℕ). Passing.Passes (suc x) is (entry.Else (w + n) ∷ es)) e h))
    closes_step _ _ (Passing.at_again_closer {n = n} {w = w} {es = es} e h) = (entry.Loop w n, es, refl, subst (λ (x : ℕ). Passing.Passes (suc x) is es) e h)
    closes_step _ _ (Passing.at_choice_end {w = w} {es = es} e h) = (entry.Else w, es, refl, subst (λ (x : ℕ). Passing.Passes (suc x) is es) e h)
    closes_step _ _ (Passing.at_block_end {w = w} {es = es} e h) = (entry.Block w, es, refl, subst (λ (x : ℕ). Passing.Passes (suc x) is es) e h)

    came_step : (i : Instruction) (es : List Entry) → AccessBelow lock_limit variable_limit (access_of i)
        → Passing.ComesTo q (i ∷ is) es → Holds (StepOf es) (effect_of p c d i s)
    unfolding effect_of form_effect form_of statement_of
    came_step i es b (Passing.closes k) = closes_step i es k
    came_step i es b (Passing.at_plain f h) = subst (Holds (StepOf es)) (sym (plain_effect p c d i s f)) (access_step es h p c d (access_of i) b)
    came_step _ es b (Passing.at_if {n = n} few h) = (entry.Then (q + n), few, of_then, h)
    came_step _ es b (Passing.at_while {n = n} few h) = (entry.Loop (q + n) n, few, of_loop, h)
    came_step _ es b (Passing.at_atomic {n = n} few h) = (entry.Block (q + n), few, of_block, h)

    pub step_of : (i : Instruction) (es : List Entry) → AccessBelow lock_limit variable_limit (access_of i)
        → Passing.Passes q (i ∷ is) es → Holds (StepOf es) (effect_of p c d i s)
    step_of i es b h = came_step i es b (comes_to q (i ∷ is) es h)
