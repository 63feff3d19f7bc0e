-- What an instruction may do and what it is, by its shared access alone; and when two accesses are independent. Only the proof of
-- demand 3 speaks of it.
--     Permitted            a thread may make the access
--     set_after            the lock set behind the access
--     AccessesBelow        instructions name only locks and variables that there are
--     StandsIn             a WRITE stands in the code
--     Owns                 a thread holds the locks of a set
--     NoLock, NoVariable   an access touches no lock, no variable
--     Independent          neither of two accesses sees the other
--     Swaps                their moves may swap, by what they are
use Rattle.std.specs.Prelude.{ℕ, ◌+◌, ◌≡◌, true, false, List, length, get_or, T}
use Rattle.atomicity.specs.Atomicity.{at_most}
use Rattle.atomicity.specs.declared.Atomicity.{Atomicity}
use Rattle.atomicity.specs.declared.Atomicity.TheVariants.{Left, Right}
use Rattle.judge.specs.Discipline.{kind_at, permits}
use Rattle.judge.specs.LockSet.{holds, with_lock, without_lock}
use Rattle.judge.specs.declared.lock_set.LockSet.{LockSet}
use Rattle.program.specs.View.{Access, none, reads, writes, takes, gives, access_of}
use Rattle.machine.specs.Step.{waits, value_read, variables_after, locks_after}
use Rattle.program.specs.Layout.{Program}
use Rattle.program.specs.Writers.{has_write}
use Rattle.program.specs.Internal.Sound.{AccessBelow}
use Rattle.program.specs.declared.instruction.Instruction.{Instruction}
use Rattle.program.specs.declared.instruction.Instruction.TheVariants.{End}

-- thread t may make the access with the lock set s
pub data Permitted (p : Program) (t : ℕ) (s : LockSet) : Access → Type 0 where
  none_permitted : Permitted p t s none
  read_permitted : {v : ℕ} → permits (kind_at p v) t s false ≡ true → Permitted p t s (reads v)
  write_permitted : {v a : ℕ} → permits (kind_at p v) t s true ≡ true → Permitted p t s (writes v a)
  take-permitted : {k : ℕ} → holds s k ≡ false → Permitted p t s (takes k)
  give_permitted : {k : ℕ} → holds s k ≡ true → Permitted p t s (gives k)

-- the lock set behind an access: "TAKE adds its lock, GIVE takes it out"
unfoldable pub set_after : Access → LockSet → LockSet
set_after none s = s
set_after (reads v) s = s
set_after (writes v a) s = s
set_after (takes k) s = with_lock s k
set_after (gives k) s = without_lock s k

-- each instruction's lock or variable is one that there is
abbrev pub AccessesBelow : Program → List Instruction → Type 0
AccessesBelow p is = (q : ℕ) → AccessBelow p.locks (length p.variables) (access_of (get_or is q End))

-- an access that is a WRITE is one that the code has
abbrev pub StandsIn : List Instruction → Access → Type 0
StandsIn is x = (v a : ℕ) → x ≡ writes v a → has_write v is ≡ true

-- thread t holds the locks of the set
pub record Owns (t : ℕ) (s : LockSet) (ks : List ℕ) : Type 0 where
  pub owner : (k : ℕ) → holds s k ≡ true → get_or ks k 0 ≡ t + 1

-- it touches no lock, or no variable
pub record NoLock (x : Access) : Type 0 where
  pub locks_stay : (t : ℕ) (ks : List ℕ) → locks_after x t ks ≡ ks
  pub never_waits : (ks : List ℕ) → waits x ks ≡ false

pub record NoVariable (x : Access) : Type 0 where
  pub variables_stay : (r vs : List ℕ) → variables_after x r vs ≡ vs
  pub reads_nothing : (vs : List ℕ) → value_read x vs ≡ 0

-- neither sees the other, and their order does not matter
pub record Independent (x y : Access) : Type 0 where
  pub variables : (r q vs : List ℕ) → variables_after y q (variables_after x r vs) ≡ variables_after x r (variables_after y q vs)
  pub locks : (t u : ℕ) (ks : List ℕ) → locks_after y u (locks_after x t ks) ≡ locks_after x t (locks_after y u ks)
  pub first_reads : (q vs : List ℕ) → value_read x (variables_after y q vs) ≡ value_read x vs
  pub second_reads : (r vs : List ℕ) → value_read y (variables_after x r vs) ≡ value_read y vs
  pub first_waits : (u : ℕ) (ks : List ℕ) → waits x (locks_after y u ks) ≡ waits x ks
  pub second_waits : (t : ℕ) (ks : List ℕ) → waits y (locks_after x t ks) ≡ waits y ks

-- the first of two moves is a right mover or the second a left mover
pub data Swaps (x y : Atomicity) : Type 0 where
  right_first : T (at_most x Right) → Swaps x y
  left_second : T (at_most y Left) → Swaps x y
