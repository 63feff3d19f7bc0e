-- One entry of the list: a step of a thread (the standard, "The step machine").
use Rattle.std.specs.Prelude.{ℕ, ◌+◌, ◌-◌, ◌%◌, ◌^◌, Bool, false, not, List, length, ◌==◌, nat_lt, slice_index, slice_index_or, slice_set}
use Rattle.program.specs.View.{Access, none, reads, writes, takes, gives, access_of, form_of, Form, Plain}
use Rattle.program.specs.Choice.{choose}
use Rattle.program.specs.Layout.{Program, code_of}
use Rattle.program.specs.View as form
use Rattle.program.specs.declared.instruction.Instruction.{Instruction}
use Rattle.program.specs.declared.instruction.Instruction.TheVariants.{Set, Copy, Add, Sub, Less, Read, Write, Take, Give, If, Else, While, Again, Atomic, End, Mulh, Lesss}
use Rattle.machine.specs.Signed.{mulh, lesss}
use Rattle.machine.specs.State.{State, thread_of}
use Rattle.machine.specs.declared.thread.Outcome.{Outcome}
use Rattle.machine.specs.declared.thread.Outcome.TheVariants.{Moved, Waiting, Idle}
use Rattle.machine.specs.declared.thread.Thread.{Thread}

-- What the shared access does

-- "TAKE of a lock that is not free"
unfoldable pub waits : Access → List ℕ → Bool
waits none locks = false
waits (reads v) locks = false
waits (writes v a) locks = false
waits (takes k) locks = not (slice_index locks k == 0)
waits (gives k) locks = false

-- the value that a READ finds
unfoldable pub value_read : Access → List ℕ → ℕ
value_read none variables = 0
value_read (reads v) variables = slice_index variables v
value_read (writes v a) variables = 0
value_read (takes k) variables = 0
value_read (gives k) variables = 0

-- a WRITE stores its register
unfoldable pub variables_after : Access → (registers variables : List ℕ) → List ℕ
variables_after none registers variables = variables
variables_after (reads v) registers variables = variables
variables_after (writes v a) registers variables = slice_set variables v (slice_index registers a)
variables_after (takes k) registers variables = variables
variables_after (gives k) registers variables = variables

-- "TAKE sets the lock, GIVE frees it"
unfoldable pub locks_after : Access → (thread : ℕ) (locks : List ℕ) → List ℕ
locks_after none t locks = locks
locks_after (reads v) t locks = locks
locks_after (writes v a) t locks = locks
locks_after (takes k) t locks = slice_set locks k (t + 1)
locks_after (gives k) t locks = slice_set locks k 0

-- The thread's own part

-- a register's value
abbrev pub reg : List ℕ → ℕ → ℕ
reg registers a = slice_index registers a

-- what an instruction leaves in the registers: all as they were, or this value in one
pub data Result : Type 0 where
  keeps : Result
  puts : (a x : ℕ) → Result

-- the result, where a READ finds this value ("The file": the table; "modulo 2^32"; "SUB takes c from b")
unfoldable pub result_of : Instruction → (value : ℕ) → List ℕ → Result
result_of (Set a n) x r = puts a n
result_of (Copy a b) x r = puts a (reg r b)
result_of (Add a b c) x r = puts a ((reg r b + reg r c) % 2 ^ 32)
result_of (Sub a b c) x r = puts a ((reg r b + (2 ^ 32 - reg r c)) % 2 ^ 32)
result_of (Less a b c) x r = puts a (choose (nat_lt (reg r b) (reg r c)) 1 0)
result_of (Read a v) x r = puts a x
result_of (Write a v) x r = keeps
result_of (Take k) x r = keeps
result_of (Give k) x r = keeps
result_of (If a n) x r = keeps
result_of (Else n) x r = keeps
result_of (While a n) x r = keeps
result_of (Again n) x r = keeps
result_of (Atomic a n) x r = keeps
result_of End x r = keeps
result_of (Mulh a b c) x r = puts a (mulh (reg r b) (reg r c))
result_of (Lesss a b c) x r = puts a (lesss (reg r b) (reg r c))

-- the registers with a result stored
unfoldable pub stored : Result → List ℕ → List ℕ
stored keeps r = r
stored (puts a x) r = slice_set r a x

-- the registers afterwards
unfoldable pub registers_after : Instruction → (value : ℕ) → List ℕ → List ℕ
registers_after i x r = stored (result_of i x r) r

-- "IF and WHILE go to the next place if the register is not 0, else one past the named place. ELSE goes to its END. AGAIN goes to its
-- WHILE. All others go to the next place"
unfoldable pub branch : List ℕ → (a n place : ℕ) → ℕ
branch r a n place = choose (reg r a == 0) (place + n + 1) (place + 1)

unfoldable pub place_behind : Form → List ℕ → ℕ → ℕ
place_behind Plain r place = place + 1
place_behind (form.If a n) r place = branch r a n place
place_behind (form.Else n) r place = place + n
place_behind (form.While a n) r place = branch r a n place
place_behind (form.Again n) r place = place - n
place_behind (form.Atomic n) r place = place + 1
place_behind form.End r place = place + 1

unfoldable pub place_after : Instruction → List ℕ → ℕ → ℕ
place_after i r place = place_behind (form_of i) r place

unfoldable pub thread_after : Instruction → (value : ℕ) → Thread → Thread
thread_after i x th = record { place = place_after i th.registers th.place; registers = registers_after i x th.registers }

-- The step

-- the instruction at a thread's place
unfoldable pub instruction_of : Program → ℕ → State → Instruction
instruction_of p t s = slice_index_or (code_of p t) (thread_of s t).place End

-- "otherwise the thread moves"
unfoldable pub move_by : Instruction → ℕ → State → State
move_by i t s = record {
  variables = variables_after (access_of i) (thread_of s t).registers s.variables;
  locks = locks_after (access_of i) t s.locks;
  threads = slice_set s.threads t (thread_after i (value_read (access_of i) s.variables) (thread_of s t));
}

-- "place equal to the code's length: idle"; "TAKE of a lock that is not free: waiting"; "otherwise the thread moves"
unfoldable pub outcome : Program → ℕ → State → Outcome
outcome p t s =
    choose ((thread_of s t).place == length (code_of p t)) Idle
    (choose (waits (access_of (instruction_of p t s)) s.locks) Waiting
    Moved)

-- "the state is unchanged", unless the thread moves
abbrev pub after : {A : Type 0} → Outcome → (unchanged moved : A) → A
after Moved x y = y
after Waiting x y = x
after Idle x y = x

unfoldable pub step : Program → ℕ → State → State
step p t s = after (outcome p t s) s (move_by (instruction_of p t s) t s)
