-- Two files, each with a list, of which demand 3 says something. In the first, two threads each add 1 to a guarded variable, in a block,
-- and the list interleaves their blocks. The second is the file of the standard's "A variable that one thread writes", and its list has
-- thread 1's moves between thread 0's READ of the open variable and its TAKE.
--     adder, adders     a thread's code, and the file
--     interleaving      the list
--     counter, reader   thread 0's code and thread 1's block in the second file
--     counted           a file with thread 0's code, and another
--     frame             the file
--     second_writer     the same, but for a WRITE of the open variable in thread 1
--     frame_list        the list
--     frame_report      the report
--     Interrupted       the premises hold of a file and a list that is itself interrupted
--     accepted_of       what a file is accepted with
use Rattle.std.specs.Prelude.{ℕ, ◌≡◌, List, [], ◌∷◌, ◌++◌, Ok, Err}
use Rattle.judge.specs.Acceptance.{Accepted, accept}
use Rattle.machine.specs.Block.{NobodyInside, Uninterrupted}
use Rattle.machine.specs.Run.{run}
use Rattle.program.specs.Answer.{Answer}
use Rattle.soundness.specs.Demand.{ThreadsOf}

-- ATOMIC 7, TAKE k0, READ r0 v0, SET r1 1, ADD r0 r0 r1, WRITE r0 v0, GIVE k0, END, with the section's length
unfoldable pub adder : List ℕ
adder =
    0x00 ∷ 0x20
    ∷ 0x34 ∷ 0x00 ∷ 0x00 ∷ 0x07
    ∷ 0x20 ∷ 0x00 ∷ 0x00 ∷ 0x00
    ∷ 0x10 ∷ 0x00 ∷ 0x00 ∷ 0x00
    ∷ 0x01 ∷ 0x01 ∷ 0x00 ∷ 0x01
    ∷ 0x03 ∷ 0x00 ∷ 0x00 ∷ 0x01
    ∷ 0x11 ∷ 0x00 ∷ 0x00 ∷ 0x00
    ∷ 0x21 ∷ 0x00 ∷ 0x00 ∷ 0x00
    ∷ 0x35 ∷ 0x00 ∷ 0x00 ∷ 0x00 ∷ []

-- one lock, two threads, one variable guarded by the lock, 5 at first
unfoldable pub adders : List ℕ
adders = 0x01 ∷ 0x01 ∷ 0x02 ∷ 0x00 ∷ 0x06 ∷ 0x00 ∷ 0x00 ∷ 0x00 ∷ 0x00 ∷ 0x00 ∷ 0x05 ∷ adder ++ adder

-- both threads enter their blocks; thread 1 waits for the lock, and takes it before thread 0 leaves its block
unfoldable pub interleaving : List ℕ
interleaving = 0 ∷ 1 ∷ 0 ∷ 1 ∷ 0 ∷ 0 ∷ 0 ∷ 0 ∷ 0 ∷ 1 ∷ 0 ∷ 1 ∷ 1 ∷ 1 ∷ 1 ∷ 1 ∷ 1 ∷ []

-- ATOMIC 8, READ r0 v0, SET r1 1, ADD r0 r0 r1, TAKE k0, WRITE r0 v1, WRITE r0 v0, GIVE k0, END, with the section's length
unfoldable pub counter : List ℕ
counter =
    0x00 ∷ 0x24
    ∷ 0x34 ∷ 0x00 ∷ 0x00 ∷ 0x08
    ∷ 0x10 ∷ 0x00 ∷ 0x00 ∷ 0x00
    ∷ 0x01 ∷ 0x01 ∷ 0x00 ∷ 0x01
    ∷ 0x03 ∷ 0x00 ∷ 0x00 ∷ 0x01
    ∷ 0x20 ∷ 0x00 ∷ 0x00 ∷ 0x00
    ∷ 0x11 ∷ 0x00 ∷ 0x01 ∷ 0x00
    ∷ 0x11 ∷ 0x00 ∷ 0x00 ∷ 0x00
    ∷ 0x21 ∷ 0x00 ∷ 0x00 ∷ 0x00
    ∷ 0x35 ∷ 0x00 ∷ 0x00 ∷ 0x00 ∷ []

-- ATOMIC 5, TAKE k0, READ r1 v1, READ r0 v0, GIVE k0, END, and then what follows
unfoldable pub reader : List ℕ → List ℕ
reader more =
    0x34 ∷ 0x00 ∷ 0x00 ∷ 0x05
    ∷ 0x20 ∷ 0x00 ∷ 0x00 ∷ 0x00
    ∷ 0x10 ∷ 0x01 ∷ 0x01 ∷ 0x00
    ∷ 0x10 ∷ 0x00 ∷ 0x00 ∷ 0x00
    ∷ 0x21 ∷ 0x00 ∷ 0x00 ∷ 0x00
    ∷ 0x35 ∷ 0x00 ∷ 0x00 ∷ 0x00 ∷ more

-- one lock, two threads, v0 open and v1 guarded by the lock, both 7 at first; thread 0's code, and thread 1's
abbrev pub counted : List ℕ → List ℕ
counted code =
    0x01 ∷ 0x01 ∷ 0x02
    ∷ 0x00 ∷ 0x0C
    ∷ 0x03 ∷ 0x00 ∷ 0x00 ∷ 0x00 ∷ 0x00 ∷ 0x07
    ∷ 0x00 ∷ 0x00 ∷ 0x00 ∷ 0x00 ∷ 0x00 ∷ 0x07
    ∷ counter ++ code

unfoldable pub frame : List ℕ
frame = counted (0x00 ∷ 0x18 ∷ reader [])

-- "Were there a WRITE of v0 in thread 1 too": WRITE r0 v0 behind its block
unfoldable pub second_writer : List ℕ
second_writer = counted (0x00 ∷ 0x1C ∷ reader (0x11 ∷ 0x00 ∷ 0x00 ∷ 0x00 ∷ []))

unfoldable pub frame_list : List ℕ
frame_list = 0 ∷ 0 ∷ 1 ∷ 0 ∷ 0 ∷ 1 ∷ 1 ∷ 1 ∷ 1 ∷ 1 ∷ 0 ∷ 0 ∷ 0 ∷ 0 ∷ 0 ∷ []

-- thread 0's READ of v0 is B, thread 1's is A
abbrev pub frame_report : List ℕ
frame_report = 4 ∷ 1 ∷ 1 ∷ 1 ∷ 3 ∷ 1 ∷ 4 ∷ 2 ∷ 0 ∷ 4 ∷ 4 ∷ 3 ∷ 1 ∷ 4 ∷ 2 ∷ 0 ∷ 4 ∷ []

-- demand 3's premises hold of the file and the list, and the list is not itself the one that is promised
pub record Interrupted (file list : List ℕ) : Type 0 where
  pub answer : Accepted
  pub accepted : accept file ≡ Ok answer
  pub threads : ThreadsOf answer.program list
  pub nobody : NobodyInside answer.program (run answer.program list).state
  pub interrupted : Uninterrupted answer.program list → ⊥

-- what an accepted file is answered; of another file this says nothing
unfoldable pub accepted_of : Answer Accepted → Accepted
accepted_of (Ok a) = a
accepted_of (Err r) = record { program = record { locks = 0; variables = []; threads = 0; codes = [] }; report = [] }
