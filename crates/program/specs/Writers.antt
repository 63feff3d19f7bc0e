-- The threads that write a variable (the standard, "Rules": "no other thread's code has a WRITE of it"). Thread t's code is code t.
use Rattle.std.specs.Prelude.{ℕ, suc, Bool, false, not, ◌&&◌, ◌||◌, List, [], ◌∷◌, eqb}
use Rattle.program.specs.Layout.{Program, CodeSection}
use Rattle.program.specs.View.{Access, none, reads, writes, takes, gives, access_of}
use Rattle.program.specs.declared.instruction.Instruction.{Instruction}

-- a WRITE of variable v
abbrev pub is_write_of : (v : ℕ) → Access → Bool
is_write_of v none = false
is_write_of v (reads w) = false
is_write_of v (writes w a) = eqb w v
is_write_of v (takes k) = false
is_write_of v (gives k) = false

-- code with a WRITE of v in it: it "counts wherever it stands in the other thread's code, reached or not"
unfoldable pub has_write : (v : ℕ) → List Instruction → Bool
has_write v [] = false
has_write v (i ∷ is) = is_write_of v (access_of i) || has_write v is

-- of the codes from number n on, one other than c has a WRITE of v; "a thread's own WRITEs do not count"
unfoldable pub written_from : (c v n : ℕ) → List CodeSection → Bool
written_from c v n [] = false
written_from c v n (x ∷ xs) = not (eqb n c) && has_write v x.code || written_from c v (suc n) xs

unfoldable pub written_by_other : Program → (c v : ℕ) → Bool
written_by_other p c v = written_from c v 0 p.codes
