-- What the rules see of an instruction (the standard, "The file"): an access to what the threads share, an opener or a closer, or neither.
-- Nesting, structure and blocks go by its form; the lock discipline, the atomicities and the step machine, where they speak of variables
-- and locks, by its access. What an ATOMIC states of its block is part of neither: judging alone asks for it.
use Rattle.std.specs.Prelude.{ℕ}
use Rattle.program.specs.declared.instruction.Instruction.{Instruction}
use Rattle.program.specs.declared.instruction.Instruction.TheVariants as instruction

-- none; a READ of variable v; a WRITE of register a into variable v; a TAKE or a GIVE of lock k
pub data Access : Type 0 where
  none : Access
  reads : (v : ℕ) → Access
  writes : (v a : ℕ) → Access
  takes gives : (k : ℕ) → Access

-- an opener or a closer with its distance n and the register a that it tests, or neither
pub data Form : Type 0 where
  Plain : Form
  If : (a n : ℕ) → Form
  Else : (n : ℕ) → Form
  While : (a n : ℕ) → Form
  Again : (n : ℕ) → Form
  Atomic : (n : ℕ) → Form
  End : Form

-- an instruction that is neither works on its thread's registers alone. An ATOMIC has a view of its own, with its distance n and what it
-- states, a: no other form is `Atomic`
pub data View : Type 0 where
  own : View
  shares : Access → View
  nests : Form → View
  states : (a n : ℕ) → View

abbrev pub view_of : Instruction → View
view_of (instruction.Set a n) = own
view_of (instruction.Copy a b) = own
view_of (instruction.Add a b c) = own
view_of (instruction.Sub a b c) = own
view_of (instruction.Less a b c) = own
view_of (instruction.Read a v) = shares (reads v)
view_of (instruction.Write a v) = shares (writes v a)
view_of (instruction.Take k) = shares (takes k)
view_of (instruction.Give k) = shares (gives k)
view_of (instruction.If a n) = nests (If a n)
view_of (instruction.Else n) = nests (Else n)
view_of (instruction.While a n) = nests (While a n)
view_of (instruction.Again n) = nests (Again n)
view_of (instruction.Atomic a n) = states a n
view_of instruction.End = nests End
view_of (instruction.Mulh a b c) = own
view_of (instruction.Lesss a b c) = own

abbrev pub access_in : View → Access
access_in own = none
access_in (shares x) = x
access_in (nests f) = none
access_in (states a n) = none

unfoldable pub access_of : Instruction → Access
access_of i = access_in (view_of i)

abbrev pub form_in : View → Form
form_in own = Plain
form_in (shares x) = Plain
form_in (nests f) = f
form_in (states a n) = Atomic n

unfoldable pub form_of : Instruction → Form
form_of i = form_in (view_of i)

-- "Field a of ATOMIC may hold the report byte of its block's atomicity, 1 to 4; 0 means not stated"
abbrev pub statement_in : View → ℕ
statement_in own = 0
statement_in (shares x) = 0
statement_in (nests f) = 0
statement_in (states a n) = a

unfoldable pub statement_of : Instruction → ℕ
statement_of i = statement_in (view_of i)
