-- The starred cases (the standard, "Cases"), one row each: what the definitions compute, and what the standard says.
use Rattle.std.specs.Prelude.{ℕ, ◌+◌, length, replicate, List, [], ◌∷◌, ◌++◌, map, Ok, Err}
use mathlib.Core.List.{flat_map}
use Rattle.atomicity.specs.Atomicity.{report_byte, composition, join, closure}
use Rattle.atomicity.specs.declared.Atomicity.{Atomicity}
use Rattle.atomicity.specs.declared.Atomicity.TheVariants.{Left, Right, Atomic, Top}
use Rattle.machine.specs.Run.{Run}
use Rattle.machine.specs.declared.counts.Counts.{Counts}
use Rattle.machine.specs.declared.thread.Thread.{Thread}
use Rattle.program.specs.Answer.{Answer}
use Rattle.program.specs.Limits.{lock_limit, thread_limit, variable_limit, report_limit, size_of_state}
use Rattle.program.specs.Refusal.{number_of, detail_of}
use Rattle.hogunlas.specs.Calls.{judge_answer, run_answer}

-- what a case says: numbers, or that the file is refused with this number at this detail
pub data Says : Type 0 where
  numbers : List ℕ → Says
  refusal : (number detail : ℕ) → Says

pub record Case : Type 0 where
  pub computed : Says
  pub stated : Says

abbrev case : Says → Says → Case
case computed stated = record { computed = computed; stated = stated }

-- What the definitions say

abbrev atomicity : Atomicity → Says
atomicity a = numbers (report_byte a ∷ [])

-- what an answer says, of which these numbers count
abbrev pub answer_says : {A : Type 0} → (A → List ℕ) → Answer A → Says
answer_says counting (Ok a) = numbers (counting a)
answer_says counting (Err r) = refusal (number_of r) (detail_of r)

-- the report, in a buffer of the size that every report fits
unfoldable pub judge_says : List ℕ → Says
judge_says s = answer_says (λ (report : List ℕ). report) (judge_answer s report_limit)

-- a run, in a buffer of the size that every state fits
unfoldable pub run_says : (Run → List ℕ) → (file list : List ℕ) → Says
run_says counting s list = answer_says counting (run_answer s list (size_of_state variable_limit lock_limit thread_limit))

-- the counts of each of eight threads, then the places and the locks at the end
abbrev pub counts_places_locks : Run → List ℕ
counts_places_locks r =
    flat_map (λ (c : Counts). c.moved ∷ c.waiting ∷ c.idle ∷ []) r.counts
    ++ map (λ (th : Thread). th.place) r.state.threads
    ++ r.state.locks

-- the registers of all threads at the end
abbrev pub registers : Run → List ℕ
registers r = flat_map (λ (th : Thread). th.registers) r.state.threads

-- Codes: TAKE k0, GIVE k0, READ r2 v0, WRITE r2 v0, ATOMIC, END; SET a to n, ADD r1 from r2 and r3

abbrev pub TAKE : List ℕ
TAKE = 0x20 ∷ 0x00 ∷ 0x00 ∷ 0x00 ∷ []

abbrev pub GIVE : List ℕ
GIVE = 0x21 ∷ 0x00 ∷ 0x00 ∷ 0x00 ∷ []

abbrev pub READ : List ℕ
READ = 0x10 ∷ 0x02 ∷ 0x00 ∷ 0x00 ∷ []

abbrev pub WRITE : List ℕ
WRITE = 0x11 ∷ 0x02 ∷ 0x00 ∷ 0x00 ∷ []

abbrev pub ATOMIC : ℕ → List ℕ
ATOMIC n = 0x34 ∷ 0x00 ∷ 0x00 ∷ n ∷ []

abbrev pub END : List ℕ
END = 0x35 ∷ 0x00 ∷ 0x00 ∷ 0x00 ∷ []

abbrev pub SET : (a n : ℕ) → List ℕ
SET a n = 0x01 ∷ a ∷ 0x00 ∷ n ∷ []

abbrev pub ADD : List ℕ
ADD = 0x03 ∷ 0x01 ∷ 0x02 ∷ 0x03 ∷ []

-- the variable section's one record, guarded by k0 or open, with initial value 5; or fixed, with the largest one
abbrev pub guarded_variable : List ℕ
guarded_variable = 0x00 ∷ 0x00 ∷ 0x00 ∷ 0x00 ∷ 0x00 ∷ 0x05 ∷ []

abbrev pub open_variable : List ℕ
open_variable = 0x03 ∷ 0x00 ∷ 0x00 ∷ 0x00 ∷ 0x00 ∷ 0x05 ∷ []

abbrev pub largest_variable : List ℕ
largest_variable = 0x02 ∷ 0x00 ∷ 0xFF ∷ 0xFF ∷ 0xFF ∷ 0xFF ∷ []

-- version 1, one lock, one thread; the variable section; the code section, which begins at offset 13
abbrev pub file : (variables code : List ℕ) → List ℕ
file variables code =
    0x01 ∷ 0x01 ∷ 0x01 ∷ 0x00 ∷ length variables ∷ variables ++ 0x00 ∷ length code ∷ code

-- the same with a second thread, whose code is WRITE r2 v0
abbrev pub file_and_writer : (variables code : List ℕ) → List ℕ
file_and_writer variables code =
    0x01 ∷ 0x01 ∷ 0x02 ∷ 0x00 ∷ length variables ∷ variables ++ 0x00 ∷ length code ∷ code ++ 0x00 ∷ 0x04 ∷ WRITE

-- two threads TAKE k0, GIVE k0
abbrev pub two_threads : List ℕ
two_threads = 0x01 ∷ 0x01 ∷ 0x02 ∷ 0x00 ∷ 0x00 ∷ 0x00 ∷ 0x08 ∷ TAKE ++ GIVE ++ 0x00 ∷ 0x08 ∷ TAKE ++ GIVE

-- The table

unfoldable pub starred : List Case
starred =
    -- R;L is A
    case (atomicity (composition Right Left)) (atomicity Atomic)
    -- L;R is T
    ∷ case (atomicity (composition Left Right)) (atomicity Top)
    -- L joined R is A
    ∷ case (atomicity (join Left Right)) (atomicity Atomic)
    -- Closure of A is T
    ∷ case (atomicity (closure Atomic)) (atomicity Top)
    -- ADD of 0xFFFFFFFF and 1 is 0: r1, which held 7, of r2 and r3
    ∷ case (run_says registers (file largest_variable (SET 1 7 ++ READ ++ SET 3 1 ++ ADD)) (0 ∷ 0 ∷ 0 ∷ 0 ∷ [])) (numbers (0 ∷ 0 ∷ 0xFFFFFFFF ∷ 1 ∷ 0 ∷ 0 ∷ 0 ∷ 0 ∷ []))
    -- Block of END only: B
    ∷ case (judge_says (file guarded_variable (ATOMIC 1 ++ END))) (numbers (1 ∷ 0 ∷ 1 ∷ []))
    -- Block TAKE, READ guarded, WRITE guarded, GIVE: A
    ∷ case (judge_says (file guarded_variable (ATOMIC 5 ++ TAKE ++ READ ++ WRITE ++ GIVE ++ END))) (numbers (4 ∷ 3 ∷ 1 ∷ 1 ∷ 2 ∷ 0 ∷ 4 ∷ []))
    -- The same four twice in one block: 13, at the END
    ∷ case (judge_says (file guarded_variable (ATOMIC 9 ++ TAKE ++ READ ++ WRITE ++ GIVE ++ TAKE ++ READ ++ WRITE ++ GIVE ++ END))) (refusal 13 (13 + 36))
    -- Block TAKE, READ open, GIVE: A, whether another thread writes the variable or none does
    ∷ case (judge_says (file_and_writer open_variable (ATOMIC 4 ++ TAKE ++ READ ++ GIVE ++ END))) (numbers (4 ∷ 3 ∷ 4 ∷ 2 ∷ 0 ∷ 4 ∷ 4 ∷ 4 ∷ []))
    ∷ case (judge_says (file open_variable (ATOMIC 4 ++ TAKE ++ READ ++ GIVE ++ END))) (numbers (4 ∷ 3 ∷ 1 ∷ 2 ∷ 0 ∷ 4 ∷ []))
    -- Block READ open, TAKE, GIVE: 13, at the END, if another thread writes the variable; A if none does
    ∷ case (judge_says (file_and_writer open_variable (ATOMIC 4 ++ READ ++ TAKE ++ GIVE ++ END))) (refusal 13 (13 + 16))
    ∷ case (judge_says (file open_variable (ATOMIC 4 ++ READ ++ TAKE ++ GIVE ++ END))) (numbers (4 ∷ 1 ∷ 3 ∷ 2 ∷ 0 ∷ 4 ∷ []))
    -- Two threads TAKE k0, GIVE k0, list 0 1 0 1: moved 3, waiting 1, idle 0; places 2 and 1; k0 holds 2. Thread 0 moved twice; thread 1
    -- moved once and waited once; the six others are not there
    ∷ case (run_says counts_places_locks two_threads (0 ∷ 1 ∷ 0 ∷ 1 ∷ [])) (numbers (2 ∷ 0 ∷ 0 ∷ 1 ∷ 1 ∷ 0 ∷ replicate 18 0 ++ 2 ∷ 1 ∷ 2 ∷ []))
    ∷ []
