-- What the proof of demand 3 asks of a program, and what every accepted file's program is.
--     no_section   the code of a thread that there is not
--     WellNested   codes that write out structured code
--     Derived      code has a derivation
use Rattle.std.specs.Prelude.{ℕ, List, []}
use Rattle.atomicity.specs.declared.Atomicity.{Atomicity}
use Rattle.judge.specs.LockSet.{empty}
use Rattle.judge.specs.declared.lock_set.LockSet.{LockSet}
use Rattle.program.specs.Code.{structured}
use Rattle.program.specs.Layout.{Program, CodeSection, code_of}
use Rattle.program.specs.Internal.WellFormed.{Writes}
use Rattle.program.specs.declared.instruction.Instruction.{Instruction}
use Rattle.judge.specs.Rules.{Typed}
use Rattle.soundness.specs.Internal.Access.{AccessesBelow}

-- the code of a thread that the program does not have
abbrev pub no_section : CodeSection
no_section = record { start = 0; code = [] }

-- each thread's code writes out structured code
pub record WellNested (p : Program) : Type 0 where
  pub writes : (t : ℕ) → Writes (code_of p t) (structured (code_of p t))
  pub accesses : (t : ℕ) → AccessesBelow p (code_of p t)

-- thread t's code has some derivation
abbrev pub Derived : Program → ℕ → List Instruction → Type 0
Derived p t is = (s : LockSet) × (a : Atomicity) × Typed p t empty (structured is) s a
