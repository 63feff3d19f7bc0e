-- What a variable asks of a code that reads or writes it (src/access_rule.rt).
--     rule_of      the rule for a variable of a kind
--     lock_of      the lock that a rule names
--     LocksBelow   the lock of each rule of a table is below the limit
--     asked_by     the rule that an access is by
--     ruled        what an access by such a rule comes to
--     RuleTables   the rules of all variables for one code say what the lock discipline says
use Rattle.std.specs.Prelude.{ℕ, ◌<◌, ◌≡◌, Bool, not, List, Ok, Err, eqb, length, get_or}
use Rattle.program.specs.View.{Access, none, reads, writes, takes, gives}
use Rattle.program.specs.Answer.{Answer, require}
use Rattle.program.specs.Choice.{choose}
use Rattle.program.specs.Layout.{program_of}
use Rattle.program.specs.Limits.{lock_limit, variable_limit}
use Rattle.program.specs.declared.layout.Layout.{Layout}
use Rattle.program.specs.declared.refusal.Refusal.TheVariants as refusal
use Rattle.program.specs.declared.variable.Kind.{Kind}
use Rattle.program.specs.declared.variable.Kind.TheVariants as kind
use Rattle.judge.specs.LockSet.{holds}
use Rattle.judge.specs.Internal.Effect.{access_effect}
use Rattle.judge.specs.declared.access_rule.Rule.{Rule}
use Rattle.judge.specs.declared.access_rule.Rule.TheVariants.{Free, Locked, Single, Never}
use Rattle.judge.specs.declared.effect.Effect.{Effect}
use Rattle.judge.specs.declared.effect.Effect.TheVariants as effect
use Rattle.judge.specs.declared.lock_set.LockSet.{LockSet}

-- where races tells whether an access of an open variable may race
abbrev pub rule_of : Kind → (c : ℕ) → (is_write races : Bool) → Rule
rule_of (kind.Guarded g) c is_write races = Locked g
rule_of (kind.Own g) c is_write races = choose (eqb g c) Free Never
rule_of kind.Fixed c is_write races = choose (not is_write) Free Never
rule_of kind.Open c is_write races = choose races Single Free

-- the lock that is to be held, or 0
abbrev pub lock_of : Rule → ℕ
lock_of Free = 0
lock_of (Locked k) = k
lock_of Single = 0
lock_of Never = 0

-- the lock of each rule is below the limit, so that it has a bit in a lock set
abbrev pub LocksBelow : List Rule → Type 0
LocksBelow rules = (v : ℕ) → lock_of (get_or rules v Free) < lock_limit

-- of an access that no rule is for, Free
abbrev pub asked_by : (read_rules write_rules : List Rule) → Access → Rule
asked_by read_rules write_rules none = Free
asked_by read_rules write_rules (reads v) = get_or read_rules v Free
asked_by read_rules write_rules (writes v a) = get_or write_rules v Free
asked_by read_rules write_rules (takes k) = Free
asked_by read_rules write_rules (gives k) = Free

-- an access at file offset d with the lock set s
unfoldable pub ruled : Rule → (d : ℕ) → LockSet → Answer Effect
ruled Free d s = Ok effect.Nothing
ruled (Locked k) d s = require (holds s k) (refusal.Access d) (Ok effect.Nothing)
ruled Single d s = Ok effect.Single
ruled Never d s = Err (refusal.Access d)

pub record RuleTables (s : List ℕ) (l : Layout) (c : ℕ) (read_rules write_rules : List Rule) : Type 0 where
  pub reads_length : length read_rules ≡ variable_limit
  pub writes_length : length write_rules ≡ variable_limit
  pub reading : (v : ℕ) → v < l.variables → (d : ℕ) (t : LockSet) → access_effect (program_of s l) c d (reads v) t ≡ ruled (get_or read_rules v Free) d t
  pub writing : (v a : ℕ) → v < l.variables → (d : ℕ) (t : LockSet) → access_effect (program_of s l) c d (writes v a) t ≡ ruled (get_or write_rules v Free) d t
