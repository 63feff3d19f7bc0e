-- Worked examples of the standard ("Line and bench", "Cases", "Mistakes that look reasonable"), computed by the definitions. Assumes
-- nothing.
--     example_printout               what bench prints for the example file
--     empty_file, empty_list         an empty file is refused; an empty list leaves the start state
--     read_before_take               a READ before its TAKE is refused
--     sixteen_open, seventeen_open   16 entries open pass, a 17th is refused
--     while_outside, while_within    a WHILE around TAKE, GIVE is T, and refused within a block
--     else_part_locks, parts_differ  the else part begins with the set at the IF, and both parts must end with equal sets
--     stated_printout                what bench prints for a block that states what it is
--     stated_true, stated_above, stated_top, stated_five
--                                    a true statement, one above the atomicity, one of a block that is T, and one of T
--     statement_taken_out            a file with its statement taken out
--     mean_run, mean_printout        a mean of two temperatures below zero
use Rattle.std.proofs.Common.{◌≡◌, refl, List, [], ◌∷◌, ◌++◌, ℕ, zero, suc, ◌+◌, replicate}
use Rattle.machine.specs.Run.{run}
use Rattle.machine.specs.State.{start}
use Rattle.printout.specs.Text.{ascii}
use Rattle.program.specs.Unstated.{without_statements}
use Rattle.hogunlas.specs.Calls.{bench_output}
use Rattle.hogunlas.specs.Cases.{numbers, refusal, judge_says, file, guarded_variable, run_says, registers, TAKE, GIVE, READ, ATOMIC, END, SET}
use Rattle.hogunlas.proofs.Definitions.{definitions}

-- "Given .. it prints exactly": the example file and its ten lines
abbrev example : List ℕ
example =
    0x01 ∷ 0x01 ∷ 0x01 ∷ 0x00 ∷ 0x06 ∷ 0x00 ∷ 0x00 ∷ 0x00 ∷ 0x00 ∷ 0x00 ∷ 0x05 ∷ 0x00 ∷ 0x0C
    ∷ 0x20 ∷ 0x00 ∷ 0x00 ∷ 0x00 ∷ 0x10 ∷ 0x02 ∷ 0x00 ∷ 0x00 ∷ 0x21 ∷ 0x00 ∷ 0x00 ∷ 0x00 ∷ []

pub example_printout : bench_output example ≡ ascii
    "01 version 1\n01 locks 1\n01 threads 1\n0006 variables 1\n00 00 00000005 v0 guarded k0 5\n000C thread 0 code 3\n20 00 00 00 0 TAKE k0 R\n10 02 00 00 1 READ r2 v0 B\n21 00 00 00 2 GIVE k0 L\nthread 0 A\n"
unfolding definitions
example_printout = refl

-- "Empty file, 1 at 0"
pub empty_file : bench_output [] ≡ ascii "refused 1 at 0\n"
unfolding definitions
empty_file = refl

-- "Empty list: the start state"
pub empty_list : (p : Rattle.program.specs.Layout.Program) → (run p []).state ≡ start p
unfolding definitions
empty_list p = refl

-- "READ put before TAKE: 9 at 13"
pub read_before_take : judge_says (file guarded_variable (READ ++ TAKE ++ GIVE)) ≡ refusal 9 13
unfolding definitions
read_before_take = refl

-- n blocks, each within the one before: n ATOMICs and n ENDs
abbrev nested : ℕ → List ℕ
nested zero = []
nested (suc k) = ATOMIC (k + k + 1) ++ nested k ++ END

-- "16 entries open pass, .. the 17th gives 8", at the 17th ATOMIC, whose offset is 13 + 4 * 16
pub sixteen_open : judge_says (file guarded_variable (nested 16)) ≡ numbers (replicate 16 1 ++ replicate 16 0 ++ 1 ∷ [])
unfolding definitions
sixteen_open = refl

pub seventeen_open : judge_says (file guarded_variable (nested 17)) ≡ refusal 8 77
unfolding definitions
seventeen_open = refl

abbrev WHILE : ℕ → List ℕ
WHILE n = 0x32 ∷ 0x00 ∷ 0x00 ∷ n ∷ []

abbrev AGAIN : ℕ → List ℕ
AGAIN n = 0x33 ∷ 0x00 ∷ 0x00 ∷ n ∷ []

-- "A WHILE around TAKE, GIVE: T outside a block, .. 13 within one"
pub while_outside : judge_says (file guarded_variable (WHILE 3 ++ TAKE ++ GIVE ++ AGAIN 3)) ≡ numbers (5 ∷ 3 ∷ 2 ∷ 0 ∷ 5 ∷ [])
unfolding definitions
while_outside = refl

pub while_within : judge_says (file guarded_variable (ATOMIC 5 ++ WHILE 3 ++ TAKE ++ GIVE ++ AGAIN 3 ++ END)) ≡ refusal 13 33
unfolding definitions
while_within = refl

abbrev IF : ℕ → List ℕ
IF n = 0x30 ∷ 0x00 ∷ 0x00 ∷ n ∷ []

abbrev ELSE : ℕ → List ℕ
ELSE n = 0x31 ∷ 0x00 ∷ 0x00 ∷ n ∷ []

-- "keeping the then part's locks for the else part": the ELSE part begins with the set at the IF, so its GIVE is 11 at the GIVE
pub else_part_locks : judge_says (file guarded_variable (IF 2 ++ TAKE ++ ELSE 2 ++ GIVE ++ END)) ≡ refusal 11 25
unfolding definitions
else_part_locks = refl

-- and two parts that end with different sets are 12 at the IF's END
pub parts_differ : judge_says (file guarded_variable (IF 2 ++ TAKE ++ ELSE 1 ++ END ++ GIVE)) ≡ refusal 12 25
unfolding definitions
parts_differ = refl

-- an ATOMIC that states a report byte
abbrev STATES : (byte n : ℕ) → List ℕ
STATES byte n = 0x34 ∷ byte ∷ 0x00 ∷ n ∷ []

-- "An ATOMIC shows the letter that it states after the distance": `34 04 00 03 0 ATOMIC 3 A A`
pub stated_printout : bench_output (file [] (STATES 4 3 ++ TAKE ++ GIVE ++ END)) ≡ ascii
    "01 version 1\n01 locks 1\n01 threads 1\n0000 variables 0\n0010 thread 0 code 4\n34 04 00 03 0 ATOMIC 3 A A\n20 00 00 00 1 TAKE k0 R\n21 00 00 00 2 GIVE k0 L\n35 00 00 00 3 END -\nthread 0 A\n"
unfolding definitions
stated_printout = refl

-- "A true statement .. of A", also around a true one of R
pub stated_true : judge_says (file guarded_variable (STATES 4 5 ++ STATES 3 2 ++ TAKE ++ END ++ GIVE ++ END)) ≡ numbers (4 ∷ 3 ∷ 3 ∷ 0 ∷ 2 ∷ 0 ∷ 4 ∷ [])
unfolding definitions
stated_true = refl

-- "at or above is not enough": a block of B that states A is 18 at its END
pub stated_above : judge_says (file guarded_variable (STATES 4 1 ++ END)) ≡ refusal 18 17
unfolding definitions
stated_above = refl

-- "13 before 18"
pub stated_top : judge_says (file guarded_variable (STATES 4 5 ++ TAKE ++ GIVE ++ TAKE ++ GIVE ++ END)) ≡ refusal 13 33
unfolding definitions
stated_top = refl

-- "T cannot be stated: field a of 5 is a 7 at the ATOMIC"
pub stated_five : judge_says (file guarded_variable (STATES 5 1 ++ END)) ≡ refusal 7 13
unfolding definitions
stated_five = refl

-- "field a of every ATOMIC made 0", and no other byte: SET's register and number are 4 too
pub statement_taken_out :
    without_statements (file guarded_variable (STATES 4 3 ++ SET 4 4 ++ READ ++ END)) ≡ file guarded_variable (ATOMIC 3 ++ SET 4 4 ++ READ ++ END)
unfolding definitions
statement_taken_out = refl

-- a mean of two temperatures below zero, -15.67 and -12.34 degrees: the file `mean` of the standard
abbrev mean : List ℕ
mean =
    0x01 ∷ 0x01 ∷ 0x02 ∷ 0x00 ∷ 0x18
    ∷ 0x00 ∷ 0x00 ∷ 0xFF ∷ 0xFF ∷ 0xFB ∷ 0x2E
    ∷ 0x00 ∷ 0x00 ∷ 0xFF ∷ 0xFF ∷ 0xFB ∷ 0x5A
    ∷ 0x00 ∷ 0x00 ∷ 0x00 ∷ 0x00 ∷ 0x00 ∷ 0x00
    ∷ 0x02 ∷ 0x00 ∷ 0xFF ∷ 0xFF ∷ 0xF9 ∷ 0xE1
    ∷ 0x00 ∷ 0x20
    ∷ 0x34 ∷ 0x00 ∷ 0x00 ∷ 0x07 ∷ 0x20 ∷ 0x00 ∷ 0x00 ∷ 0x00 ∷ 0x10 ∷ 0x00 ∷ 0x00 ∷ 0x00 ∷ 0x11 ∷ 0x00 ∷ 0x01 ∷ 0x00
    ∷ 0x10 ∷ 0x01 ∷ 0x03 ∷ 0x00 ∷ 0x11 ∷ 0x01 ∷ 0x00 ∷ 0x00 ∷ 0x21 ∷ 0x00 ∷ 0x00 ∷ 0x00 ∷ 0x35 ∷ 0x00 ∷ 0x00 ∷ 0x00
    ∷ 0x00 ∷ 0x30
    ∷ 0x34 ∷ 0x04 ∷ 0x00 ∷ 0x09 ∷ 0x20 ∷ 0x00 ∷ 0x00 ∷ 0x00 ∷ 0x10 ∷ 0x00 ∷ 0x00 ∷ 0x00 ∷ 0x10 ∷ 0x01 ∷ 0x01 ∷ 0x00
    ∷ 0x03 ∷ 0x02 ∷ 0x00 ∷ 0x01 ∷ 0x01 ∷ 0x03 ∷ 0x00 ∷ 0x32 ∷ 0x07 ∷ 0x02 ∷ 0x02 ∷ 0x03 ∷ 0x11 ∷ 0x02 ∷ 0x02 ∷ 0x00
    ∷ 0x21 ∷ 0x00 ∷ 0x00 ∷ 0x00 ∷ 0x35 ∷ 0x00 ∷ 0x00 ∷ 0x00 ∷ 0x01 ∷ 0x04 ∷ 0x00 ∷ 0x64 ∷ 0x08 ∷ 0x05 ∷ 0x02 ∷ 0x04 ∷ []

-- the registers of both threads: thread 1 has -1401 in r2, -14.005 degrees to the nearest hundredth, and 1 in r5, since it is less than 100
pub mean_run : run_says registers mean (0 ∷ 1 ∷ 0 ∷ 1 ∷ replicate 6 0 ++ replicate 11 1) ≡ numbers
    (0xFFFFFB2E ∷ 0xFFFFF9E1 ∷ replicate 6 0 ++ 0xFFFFF9E1 ∷ 0xFFFFFB2E ∷ 0xFFFFFA87 ∷ 50 ∷ 100 ∷ 1 ∷ 0 ∷ 0 ∷ [])
unfolding definitions
mean_run = refl

pub mean_printout : bench_output mean ≡ ascii
    "01 version 1\n01 locks 1\n02 threads 2\n0018 variables 4\n00 00 FFFFFB2E v0 guarded k0 4294966062\n00 00 FFFFFB5A v1 guarded k0 4294966106\n00 00 00000000 v2 guarded k0 0\n02 00 FFFFF9E1 v3 fixed 4294965729\n0020 thread 0 code 8\n34 00 00 07 0 ATOMIC 7 A\n20 00 00 00 1 TAKE k0 R\n10 00 00 00 2 READ r0 v0 B\n11 00 01 00 3 WRITE r0 v1 B\n10 01 03 00 4 READ r1 v3 B\n11 01 00 00 5 WRITE r1 v0 B\n21 00 00 00 6 GIVE k0 L\n35 00 00 00 7 END -\n0030 thread 1 code 12\n34 04 00 09 0 ATOMIC 9 A A\n20 00 00 00 1 TAKE k0 R\n10 00 00 00 2 READ r0 v0 B\n10 01 01 00 3 READ r1 v1 B\n03 02 00 01 4 ADD r2 r0 r1 B\n01 03 00 32 5 SET r3 50 B\n07 02 02 03 6 MULH r2 r2 r3 B\n11 02 02 00 7 WRITE r2 v2 B\n21 00 00 00 8 GIVE k0 L\n35 00 00 00 9 END -\n01 04 00 64 10 SET r4 100 B\n08 05 02 04 11 LESSS r5 r2 r4 B\nthread 0 A\nthread 1 A\n"
unfolding definitions
mean_printout = refl
