-- Lock sets (the standard, "Lock discipline"): a bit for each lock.
use Rattle.std.specs.Prelude.{ℕ, ◌+◌, ◌-◌, ◌/◌, ◌%◌, ◌^◌, Bool, eqb}
use Rattle.judge.specs.declared.lock_set.LockSet.{LockSet}

-- "Each thread starts with no locks held"
unfoldable pub empty : LockSet
empty = record { bits = 0 }

unfoldable pub holds : LockSet → ℕ → Bool
holds s k = eqb (s.bits / 2 ^ k % 2) 1

-- "TAKE adds its lock" where it is not in the set, "GIVE takes it out" where it is
unfoldable pub with_lock : LockSet → ℕ → LockSet
with_lock s k = record { bits = s.bits + 2 ^ k }

unfoldable pub without_lock : LockSet → ℕ → LockSet
without_lock s k = record { bits = s.bits - 2 ^ k }

-- equal sets
unfoldable pub same : LockSet → LockSet → Bool
same s t = eqb s.bits t.bits
