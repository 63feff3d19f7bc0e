-- What a variable asks of a code says what the lock discipline says. Assumes nothing.
--     kind_good        the lock of a guarded variable is below the lock limit
--     kind_says        an access by the rule of a kind
--     kind_lock        the lock of such a rule is below the limit
--     RulesFilled      what holds at the head of the loop that fills the tables; from its start, over one variable, to its end
--     locks_start      the locks of tables of the rule Free are below the limit
--     read_locks_next, write_locks_next
--                      ... and stay so over one variable
--     asked_lock       so is the lock that an access asks for by rules that say what the lock discipline says
--     beyond_refused   an access that asks for another is refused
use Rattle.std.proofs.Common.{ℕ, ◌+◌, ◌≤◌, ◌<◌, ◌≡◌, refl, sym, ◌∙◌, subst, Bool, true, false, not, List, arith, ltb, eqb, length, get_or, set, replicate, length-set, get_or-set_same, get_or-set_other, ltb-true, ◌^◌, Ok, Err, Option, Some, None}
use native.Mathlib.Decide.{ℕ_discrete}
use Rattle.atomicity.specs.declared.Atomicity.TheVariants as atomicity
use Rattle.program.specs.View.{Access, none, reads, writes, takes, gives, View, own, shares, nests, states, view_of, access_in, access_of, form_in, form_of, statement_in, statement_of}
use Rattle.program.specs.Answer.{Answer, require}
use Rattle.program.specs.Choice.{choose}
use Rattle.program.specs.Layout.{program_of}
use Rattle.program.specs.Limits.{lock_limit, record_offset, variable_limit}
use Rattle.program.specs.Variable.{kind_of, recorded, record_at}
use Rattle.program.specs.Writers.{written_by_other}
use Rattle.program.specs.Internal.Sound.{AccessBelow, SoundFile}
use Rattle.program.specs.declared.instruction.Instruction.{Instruction}
use Rattle.program.specs.declared.layout.Layout.{Layout}
use Rattle.program.specs.declared.refusal.Refusal.TheVariants as refusal
use Rattle.program.specs.declared.variable.Kind.{Kind}
use Rattle.program.specs.declared.variable.Kind.TheVariants.{Guarded, Own, Fixed, Open}
use Rattle.program.proofs.Differ.{differ}
use Rattle.program.proofs.Lists.{get_or-replicate_same}
use Rattle.judge.specs.Discipline.{kind_at, permits, may_race, kind_atomicity, access_atomicity}
use Rattle.judge.specs.LockSet.{empty, with_lock}
use Rattle.judge.specs.Internal.Effect.{passing, access_effect, form_effect, effect_of}
use Rattle.judge.specs.Internal.Rule.{rule_of, lock_of, LocksBelow, asked_by, ruled, RuleTables}
use Rattle.judge.specs.declared.access_rule.Rule.{Rule}
use Rattle.judge.specs.declared.access_rule.Rule.TheVariants as rule
use Rattle.judge.specs.declared.access_rule.Rule.TheVariants.{Free, Single, Never}
use Rattle.judge.specs.declared.effect.Effect.{Effect}
use Rattle.judge.specs.declared.effect.Effect.TheVariants as effect
use Rattle.judge.specs.declared.lock_set.LockSet.{LockSet}
use Rattle.judge.proofs.LockSets.{empty_holds, with_self, with_other, none_above}
use Rattle.judge.proofs.VariableKinds.{kind_in}

-- the lock that a kind names is below the limit
abbrev LockGood : Kind → Type 0
LockGood (Guarded g) = g < lock_limit
LockGood (Own g) = Unit
LockGood Fixed = Unit
LockGood Open = Unit

record Locked (r : Option Kind) : Type 0 where
  locked : LockGood (kind_of r)

recorded_lock : (locks threads kind g : ℕ) → locks ≤ lock_limit → Locked (recorded locks threads kind g)
unfolding recorded
recorded_lock locks threads kind g few =
    either (eqb kind 0) (guarded (ltb g locks) refl)
    (either (eqb kind 1) (valid (ltb g threads) (Own g) tt)
    (either (eqb kind 2) (valid (eqb g 0) Fixed tt)
    (either (eqb kind 3) (valid (eqb g 0) Open tt)
    (record { locked = tt }))))
  where
    either : (b : Bool) {x y : Option Kind} → Locked x → Locked y → Locked (choose b x y)
    either true h k = h
    either false h k = k

    guarded : (b : Bool) → ltb g locks ≡ b → Locked (choose b (Some (Guarded g)) None)
    guarded true e = let h = ltb-true g locks e in record { locked = omega arith }
    guarded false e = record { locked = tt }

    valid : (b : Bool) (k : Kind) → LockGood k → Locked (choose b (Some k) None)
    valid true k h = record { locked = h }
    valid false k h = record { locked = tt }

-- an access by the rule of a kind
module _ (d c : ℕ) (s : LockSet) (is_write races : Bool) where
  -- what an access of a variable of this kind comes to
  abbrev accessed : Kind → Answer Effect
  accessed k = require (permits k c s is_write) (refusal.Access d) (Ok (passing (kind_atomicity k races)))

  free_says : (good : Bool) → ruled (choose good Free Never) d s ≡ require good (refusal.Access d) (Ok effect.Nothing)
  unfolding ruled
  free_says true = refl
  free_says false = refl

  open_says : (a : Bool) → ruled (choose a Single Free) d s ≡ Ok (passing (choose a atomicity.Atomic atomicity.Both))
  unfolding ruled
  open_says true = refl
  open_says false = refl

  kind_says : (k : Kind) → ruled (rule_of k c is_write races) d s ≡ accessed k
  unfolding ruled permits
  kind_says (Guarded g) = refl
  kind_says (Own g) = free_says (eqb g c)
  kind_says Fixed = free_says (not is_write)
  kind_says Open = open_says races

-- the lock of a kind's rule is below the limit
module _ (c : ℕ) (is_write races : Bool) where
  choice_lock : (b : Bool) (x y : Rule) → lock_of x ≡ 0 → lock_of y ≡ 0 → lock_of (choose b x y) < lock_limit
  choice_lock true x y h k = omega (arith, h)
  choice_lock false x y h k = omega (arith, k)

  kind_lock : (k : Kind) → LockGood k → lock_of (rule_of k c is_write races) < lock_limit
  kind_lock (Guarded g) h = h
  kind_lock (Own g) h = choice_lock (eqb g c) Free Never refl refl
  kind_lock Fixed h = choice_lock (not is_write) Free Never refl refl
  kind_lock Open h = choice_lock races Single Free refl refl

module _ (s : List ℕ) (l : Layout) (c v : ℕ) (h : v < l.variables) where
  -- whether an access of variable v may race, should it be open
  abbrev races_there : (is_write : Bool) → Bool
  races_there is_write = may_race is_write (written_by_other (program_of s l) c v)

  -- the kind that the record of variable v says
  abbrev kind_there : Kind
  kind_there = kind_of (record_at l.locks l.threads s (record_offset v))

  -- and so the rules
  abbrev read_there : Rule
  read_there = rule_of kind_there c false (races_there false)

  abbrev write_there : Rule
  write_there = rule_of kind_there c true (races_there true)

  good_there : l.locks ≤ lock_limit → LockGood kind_there
  unfolding record_at
  good_there few = (recorded_lock l.locks l.threads _ _ few).locked

  kind_good : l.locks ≤ lock_limit → LockGood (kind_at (program_of s l) v)
  kind_good few = subst LockGood (sym (kind_in s l v h)) (good_there few)

  read_says : (d : ℕ) (t : LockSet) → access_effect (program_of s l) c d (reads v) t ≡ ruled read_there d t
  unfolding access_effect access_atomicity
  read_says d t = rw (← kind_in s l v h) (sym (kind_says d c t false (races_there false) (kind_at (program_of s l) v)))

  write_says : (a d : ℕ) (t : LockSet) → access_effect (program_of s l) c d (writes v a) t ≡ ruled write_there d t
  unfolding access_effect access_atomicity
  write_says a d t = rw (← kind_in s l v h) (sym (kind_says d c t true (races_there true) (kind_at (program_of s l) v)))

-- What holds at the head of the loop that fills the tables, before variable v
pub record RulesFilled (s : List ℕ) (l : Layout) (c : ℕ) (read_rules write_rules : List Rule) (v : ℕ) : Type 0 where
  pub reads_length : length read_rules ≡ variable_limit
  pub writes_length : length write_rules ≡ variable_limit
  pub reading : (u : ℕ) → u < v → (d : ℕ) (t : LockSet) → access_effect (program_of s l) c d (reads u) t ≡ ruled (get_or read_rules u Free) d t
  pub writing : (u a : ℕ) → u < v → (d : ℕ) (t : LockSet) → access_effect (program_of s l) c d (writes u a) t ≡ ruled (get_or write_rules u Free) d t

pub filled_start : (s : List ℕ) (l : Layout) (c : ℕ) (read_rules write_rules : List Rule) → length read_rules ≡ variable_limit → length write_rules ≡ variable_limit
    → RulesFilled s l c read_rules write_rules 0
filled_start s l c read_rules write_rules p q = record {
  reads_length = p;
  writes_length = q;
  reading = λ u h. absurd (let z : ⊥ = omega arith in z);
  writing = λ u a h. absurd (let z : ⊥ = omega arith in z);
}

module _ (s : List ℕ) (l : Layout) (f : SoundFile s l) (c : ℕ) (read_rules write_rules : List Rule) (v : ℕ) (x : RulesFilled s l c read_rules write_rules v) where
  pub filled_next : (h : v < l.variables) → RulesFilled s l c (set read_rules v (read_there s l c v h)) (set write_rules v (write_there s l c v h)) (v + 1)
  filled_next h =
      let p : v < length read_rules = omega (arith, x.reads_length, f.variables) in
      let q : v < length write_rules = omega (arith, x.writes_length, f.variables) in
      record {
        reads_length = length-set read_rules v _ ∙ x.reads_length;
        writes_length = length-set write_rules v _ ∙ x.writes_length;
        reading = λ u b d t. elim (ℕ_discrete u v) [
          | yes e ↦ rw (e, get_or-set_same read_rules v (read_there s l c v h) Free p) (read_says s l c v h d t)
          | no n ↦ rw (get_or-set_other read_rules v u (read_there s l c v h) Free n) (x.reading u (omega (arith, n)) d t)
        ];
        writing = λ u a b d t. elim (ℕ_discrete u v) [
          | yes e ↦ rw (e, get_or-set_same write_rules v (write_there s l c v h) Free q) (write_says s l c v h a d t)
          | no n ↦ rw (get_or-set_other write_rules v u (write_there s l c v h) Free n) (x.writing u a (omega (arith, n)) d t)
        ];
      }

  pub filled_end : l.variables ≤ v → RuleTables s l c read_rules write_rules
  filled_end all = record {
    reads_length = x.reads_length;
    writes_length = x.writes_length;
    reading = λ u h. x.reading u (omega (arith, h));
    writing = λ u a h. x.writing u a (omega (arith, h));
  }

-- ---- the locks of a table's rules

-- of a table of the rule Free
pub locks_start : LocksBelow (replicate variable_limit Free)
locks_start u = rw (get_or-replicate_same variable_limit u Free) (omega arith)

-- where a variable's rule is stored in one
locks_set : (rules : List Rule) (v : ℕ) (r : Rule) → v < length rules → lock_of r < lock_limit → LocksBelow rules → LocksBelow (set rules v r)
locks_set rules v r inside small below u = elim (ℕ_discrete u v) [
  | yes e ↦ rw (e, get_or-set_same rules v r Free inside) small
  | no n ↦ rw (get_or-set_other rules v u r Free n) (below u)
]

module _ (s : List ℕ) (l : Layout) (f : SoundFile s l) (c : ℕ) (rules : List Rule) (v : ℕ) (size : length rules ≡ variable_limit) (h : v < l.variables) where
  pub read_locks_next : LocksBelow rules → LocksBelow (set rules v (read_there s l c v h))
  read_locks_next = locks_set rules v _ (omega (arith, size, f.variables)) (kind_lock c false _ _ (good_there s l c v h f.locks))

  pub write_locks_next : LocksBelow rules → LocksBelow (set rules v (write_there s l c v h))
  write_locks_next = locks_set rules v _ (omega (arith, size, f.variables)) (kind_lock c true _ _ (good_there s l c v h f.locks))

-- ---- the lock that an access asks for

module _ (c : ℕ) (is_write : Bool) where
  -- an access that the set of lock j alone permits and the empty one doesn't is of a variable that lock j guards
  kind_asks : (j : ℕ) (k : Kind) → LockGood k → permits k c empty is_write ≡ false → permits k c (with_lock empty j) is_write ≡ true → j < lock_limit
  unfolding permits
  kind_asks j (Guarded g) good without has = elim (ℕ_discrete g j) [
    | yes e ↦ omega (arith, good, e)
    | no n ↦
        let z : ◌≡◌ {A = Bool} false true = sym (with_other empty j (empty_holds j) g n ∙ empty_holds g) ∙ has in
        differ cc
  ]
  kind_asks j (Own g) good without has = let z : ◌≡◌ {A = Bool} false true = sym without ∙ has in differ cc
  kind_asks j Fixed good without has = let z : ◌≡◌ {A = Bool} false true = sym without ∙ has in differ cc
  kind_asks j Open good without has = let z : ◌≡◌ {A = Bool} false true = sym without ∙ has in differ cc

  module _ (e : Effect) where
    refused_test : (ok : Bool) → require ok (refusal.Access 0) (Ok e) ≡ Err (refusal.Access 0) → ok ≡ false
    refused_test true h = differ cc
    refused_test false h = refl

    allowed_test : (ok : Bool) {f : Effect} → require ok (refusal.Access 0) (Ok e) ≡ Ok f → ok ≡ true
    allowed_test true h = refl
    allowed_test false h = differ cc

    rule_asks : (r : Rule) (k : Kind) → LockGood k → ((t : LockSet) → require (permits k c t is_write) (refusal.Access 0) (Ok e) ≡ ruled r 0 t) → lock_of r < lock_limit
    unfolding ruled
    rule_asks Free k good says = omega arith
    rule_asks (rule.Locked j) k good says =
        kind_asks j k good (refused_test _ (rw (empty_holds j) at (says empty))) (allowed_test _ (rw (with_self empty j (empty_holds j)) at (says (with_lock empty j))))
    rule_asks Single k good says = omega arith
    rule_asks Never k good says = omega arith

module _ (s : List ℕ) (l : Layout) (c : ℕ) (read_rules write_rules : List Rule) (tables : RuleTables s l c read_rules write_rules) where
  pub asked_lock : l.locks ≤ lock_limit → (a : Access) → AccessBelow l.locks l.variables a → lock_of (asked_by read_rules write_rules a) < lock_limit
  unfolding access_effect
  asked_lock few none below = omega arith
  asked_lock few (reads v) below =
      rule_asks c false (passing (access_atomicity (program_of s l) c v false)) (get_or read_rules v Free) (kind_at (program_of s l) v) (kind_good s l c v below few) (λ t. tables.reading v below 0 t)
  asked_lock few (writes v a) below =
      rule_asks c true (passing (access_atomicity (program_of s l) c v true)) (get_or write_rules v Free) (kind_at (program_of s l) v) (kind_good s l c v below few) (λ t. tables.writing v a below 0 t)
  asked_lock few (takes k) below = omega arith
  asked_lock few (gives k) below = omega arith

  -- of an access at file offset d with the lock set t
  module _ (d : ℕ) (t : LockSet) (small : t.bits < 2 ^ lock_limit) where
    rule_refused : (r : Rule) → lock_limit ≤ lock_of r → ruled r d t ≡ Err (refusal.Access d)
    unfolding ruled
    rule_refused Free beyond = absurd (let z : ⊥ = omega (arith, beyond) in z)
    rule_refused (rule.Locked k) beyond = rw (none_above t lock_limit k small beyond)
    rule_refused Single beyond = absurd (let z : ⊥ = omega (arith, beyond) in z)
    rule_refused Never beyond = refl

    access_refused : (a : Access) → AccessBelow l.locks l.variables a → lock_limit ≤ lock_of (asked_by read_rules write_rules a) → access_effect (program_of s l) c d a t ≡ Err (refusal.Access d)
    access_refused none below beyond = absurd (let z : ⊥ = omega (arith, beyond) in z)
    access_refused (reads v) below beyond = tables.reading v below d t ∙ rule_refused (get_or read_rules v Free) beyond
    access_refused (writes v a) below beyond = tables.writing v a below d t ∙ rule_refused (get_or write_rules v Free) beyond
    access_refused (takes k) below beyond = absurd (let z : ⊥ = omega (arith, beyond) in z)
    access_refused (gives k) below beyond = absurd (let z : ⊥ = omega (arith, beyond) in z)

    view_refused : (i : View) → AccessBelow l.locks l.variables (access_in i) → lock_limit ≤ lock_of (asked_by read_rules write_rules (access_in i))
        → form_effect (form_in i) (statement_in i) (access_effect (program_of s l) c d (access_in i) t) ≡ Err (refusal.Access d)
    unfolding form_effect
    view_refused own below beyond = absurd (let z : ⊥ = omega (arith, beyond) in z)
    view_refused (shares a) below beyond = access_refused a below beyond
    view_refused (nests f) below beyond = absurd (let z : ⊥ = omega (arith, beyond) in z)
    view_refused (states a n) below beyond = absurd (let z : ⊥ = omega (arith, beyond) in z)

    pub beyond_refused : (i : Instruction) → AccessBelow l.locks l.variables (access_of i) → lock_limit ≤ lock_of (asked_by read_rules write_rules (access_of i))
        → Err (refusal.Access d) ≡ effect_of (program_of s l) c d i t
    unfolding effect_of access_of form_of statement_of
    beyond_refused i below beyond = sym (view_refused (view_of i) below beyond)
