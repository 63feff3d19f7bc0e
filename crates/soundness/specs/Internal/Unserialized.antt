-- Why a WRITE of an open variable is A, also where no other thread writes it: a file with a block of two such WRITEs, which is refused, and a
-- list whose end no uninterrupted list has (the standard, "Mistakes that look reasonable": "taking a WRITE as B because no other thread
-- writes: thread 1 can see v0 new and v1 old").
--     two_writes, two_writes_program   the file, and its program
--     between_writes                   the list
--     sees_between                     thread 1 has seen v0 new and v1 old
--     is_moved, may_move, never        a search through all uninterrupted lists of two threads
use Rattle.std.specs.Prelude.{ℕ, zero, suc, Bool, true, false, not, ◌&&◌, List, [], ◌∷◌, eqb, get_or}
use Rattle.machine.specs.Block.{inside}
use Rattle.machine.specs.State.{State, thread_of}
use Rattle.machine.specs.Step.{outcome, step}
use Rattle.machine.specs.declared.thread.Outcome.{Outcome}
use Rattle.machine.specs.declared.thread.Outcome.TheVariants.{Moved, Waiting, Idle}
use Rattle.program.specs.Choice.{choose}
use Rattle.program.specs.Layout.{Program, program_of}

-- no lock, two threads, v0 and v1 open, both 5 at first. Thread 0: ATOMIC 3, WRITE r0 v0, WRITE r0 v1, END. Thread 1: READ r0 v0, READ r1 v1
unfoldable pub two_writes : List ℕ
two_writes =
    0x01 ∷ 0x00 ∷ 0x02
    ∷ 0x00 ∷ 0x0C
    ∷ 0x03 ∷ 0x00 ∷ 0x00 ∷ 0x00 ∷ 0x00 ∷ 0x05
    ∷ 0x03 ∷ 0x00 ∷ 0x00 ∷ 0x00 ∷ 0x00 ∷ 0x05
    ∷ 0x00 ∷ 0x10
    ∷ 0x34 ∷ 0x00 ∷ 0x00 ∷ 0x03
    ∷ 0x11 ∷ 0x00 ∷ 0x00 ∷ 0x00
    ∷ 0x11 ∷ 0x00 ∷ 0x01 ∷ 0x00
    ∷ 0x35 ∷ 0x00 ∷ 0x00 ∷ 0x00
    ∷ 0x00 ∷ 0x08
    ∷ 0x10 ∷ 0x00 ∷ 0x00 ∷ 0x00
    ∷ 0x10 ∷ 0x01 ∷ 0x01 ∷ 0x00 ∷ []

unfoldable pub two_writes_program : Program
two_writes_program = program_of two_writes (record { locks = 0; threads = 2; variables = 2; instructions = 6 })

-- both of thread 1's moves come between the WRITEs
unfoldable pub between_writes : List ℕ
between_writes = 0 ∷ 0 ∷ 1 ∷ 1 ∷ 0 ∷ 0 ∷ []

unfoldable pub sees_between : State → Bool
sees_between s = let r = (thread_of s 1).registers in eqb (get_or r 0 0) 0 && eqb (get_or r 1 0) 5

-- ---- the search

abbrev pub is_moved : Outcome → Bool
is_moved Moved = true
is_moved Waiting = false
is_moved Idle = false

-- the next entry of an uninterrupted list may be thread t's, where u is the other thread
unfoldable pub may_move : Program → State → (t u : ℕ) → Bool
may_move p s t u = is_moved (outcome p t s) && not (inside p s u)

-- no uninterrupted list of threads 0 and 1 leads from the state to one in which the test holds, and each ends in fewer than n entries
unfoldable pub never : Program → (State → Bool) → ℕ → State → Bool
never p test zero s = false
never p test (suc n) s =
    not (test s)
    && choose (may_move p s 0 1) (never p test n (step p 0 s)) true
    && choose (may_move p s 1 0) (never p test n (step p 1 s)) true
