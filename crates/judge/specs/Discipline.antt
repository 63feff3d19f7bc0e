-- What an instruction that is no opener or closer may do, what it does to the lock set, and its atomicity (the standard, "Lock
-- discipline", "Atomicities"; "Who can bring a number about": 9, 10, 11).
use Rattle.std.specs.Prelude.{ℕ, Bool, true, false, not, ◌||◌, get_or, eqb, Ok}
use Rattle.atomicity.specs.declared.Atomicity.{Atomicity}
use Rattle.atomicity.specs.declared.Atomicity.TheVariants as atomicity
use Rattle.program.specs.View.{Access, none, reads, writes, takes, gives, access_of}
use Rattle.program.specs.Answer.{Answer, require}
use Rattle.program.specs.Choice.{choose}
use Rattle.program.specs.Layout.{Program}
use Rattle.program.specs.Writers.{written_by_other}
use Rattle.program.specs.declared.instruction.Instruction.{Instruction}
use Rattle.program.specs.declared.refusal.Refusal.TheVariants as refusal
use Rattle.program.specs.declared.variable.Kind.{Kind}
use Rattle.program.specs.declared.variable.Kind.TheVariants.{Guarded, Own, Fixed, Open}
use Rattle.judge.specs.LockSet.{holds, with_lock, without_lock}
use Rattle.judge.specs.declared.lock_set.LockSet.{LockSet}

-- the kind of variable v
unfoldable pub kind_at : Program → ℕ → Kind
kind_at p v = (get_or p.variables v (record { kind = Open; initial = 0 })).kind

-- "A guarded variable is read or written only with its lock in the set; an own one only by its thread; a fixed one is never written;
-- an open one freely". Thread t's code is code t
unfoldable pub permits : Kind → (c : ℕ) → LockSet → (is_write : Bool) → Bool
permits (Guarded g) c s is_write = holds s g
permits (Own g) c s is_write = eqb g c
permits Fixed c s is_write = not is_write
permits Open c s is_write = true

-- the lock set after an access of code c at file offset d, or what it offends. "TAKE adds its lock, GIVE takes it out"
unfoldable pub accessed_set : Program → (c d : ℕ) → Access → LockSet → Answer LockSet
accessed_set p c d none s = Ok s
accessed_set p c d (reads v) s = require (permits (kind_at p v) c s false) (refusal.Access d) (Ok s)
accessed_set p c d (writes v a) s = require (permits (kind_at p v) c s true) (refusal.Access d) (Ok s)
accessed_set p c d (takes k) s = require (not (holds s k)) (refusal.Taken d) (Ok (with_lock s k))
accessed_set p c d (gives k) s = require (holds s k) (refusal.NotTaken d) (Ok (without_lock s k))

unfoldable pub lock_set_after : Program → (c d : ℕ) → Instruction → LockSet → Answer LockSet
lock_set_after p c d i s = accessed_set p c d (access_of i) s

-- whether an access of an open variable may race: it is a WRITE, or another thread's code has a WRITE of the variable
abbrev pub may_race : (is_write others : Bool) → Bool
may_race is_write others = is_write || others

-- an access of a variable of this kind; whether it may race counts for an open one only
abbrev pub kind_atomicity : Kind → (races : Bool) → Atomicity
kind_atomicity (Guarded g) races = atomicity.Both
kind_atomicity (Own g) races = atomicity.Both
kind_atomicity Fixed races = atomicity.Both
kind_atomicity Open races = choose races atomicity.Atomic atomicity.Both

-- "a WRITE of an open variable is A, a READ of an open variable is B if no other thread's code has a WRITE of it, and A otherwise"
unfoldable pub access_atomicity : Program → (c v : ℕ) → (is_write : Bool) → Atomicity
access_atomicity p c v is_write = kind_atomicity (kind_at p v) (may_race is_write (written_by_other p c v))

-- what a move that makes this access with the lock set s is: "TAKE is R, GIVE is L, .. every other plain instruction is B"
unfoldable pub access_mover : Program → (c : ℕ) → LockSet → Access → Atomicity
access_mover p c s none = atomicity.Both
access_mover p c s (reads v) = access_atomicity p c v false
access_mover p c s (writes v a) = access_atomicity p c v true
access_mover p c s (takes k) = atomicity.Right
access_mover p c s (gives k) = atomicity.Left

unfoldable pub mover_of : Program → (c : ℕ) → LockSet → Instruction → Atomicity
mover_of p c s i = access_mover p c s (access_of i)

-- the atomicity of an instruction of code c at the lock set s, in judging: its move's
unfoldable pub atomicity_of : Program → (c : ℕ) → LockSet → Instruction → Atomicity
atomicity_of p c s i = mover_of p c s i
