-- The rules of judging over structured code, in reading order (the standard, "Lock discipline", "Atomicities";
-- "Who can bring a number about": the writer's part), and the report.
use Rattle.std.specs.Prelude.{ℕ, suc, ◌+◌, ◌*◌, Bool, not, ◌||◌, List, [], ◌∷◌, ◌++◌, length, eqb, Ok}
use Rattle.atomicity.specs.Atomicity.{report_byte, composition, join, closure}
use Rattle.atomicity.specs.declared.Atomicity.{Atomicity}
use Rattle.atomicity.specs.declared.Atomicity.TheVariants.{Both, Top}
use Rattle.program.specs.Answer.{Answer, ◌>>=◌, ◌>>◌, require}
use Rattle.program.specs.Code.{Code, done, plain, choice, loop, block, size, structured}
use Rattle.program.specs.Layout.{Program, CodeSection}
use Rattle.program.specs.Limits.{instruction_size}
use Rattle.program.specs.declared.refusal.Refusal.TheVariants.{SetsDiffer, NotAtomic, FalseStatement}
use Rattle.judge.specs.Discipline.{lock_set_after, atomicity_of}
use Rattle.judge.specs.LockSet.{empty, same}
use Rattle.judge.specs.declared.lock_set.LockSet.{LockSet}

-- what judging code finds: the lock set after it, its atomicity, and its report, a byte for each instruction
pub record Finding : Type 0 where
  pub locks : LockSet
  pub atomicity : Atomicity
  pub report : List ℕ

-- "block is T"
unfoldable pub is_top : Atomicity → Bool
is_top a = eqb (report_byte a) (report_byte Top)

-- what an ATOMIC states of a block with atomicity a is true: "0 means not stated"; "A stated value must be exactly the one worked out"
unfoldable pub states_truly : (stated : ℕ) → Atomicity → Bool
states_truly stated a = eqb stated 0 || eqb stated (report_byte a)

-- the offset of the closer behind part a, whose opener has offset d
abbrev pub closer_at : (d : ℕ) → Code → ℕ
closer_at d a = d + instruction_size + instruction_size * size a

-- a construct of atomicity a composed with what follows it: its byte, the bytes inside it, and those that follow
abbrev pub followed : Atomicity → (inside : List ℕ → List ℕ) → Finding → Answer Finding
followed a inside rest =
    Ok (record { locks = rest.locks; atomicity = composition a rest.atomicity; report = report_byte a ∷ inside rest.report })

-- code c from the instruction at file offset d on, begun with the lock set s. "A sequence composes its parts; an empty one
-- is B. IF is the join of its two parts. WHILE is the closure of its body. ATOMIC has its body's atomicity". The report has "0 for
-- ELSE, AGAIN and END; the whole construct's at its opener"
unfoldable pub judge : Program → (c d : ℕ) → LockSet → Code → Answer Finding
judge p c d s done = Ok (record { locks = s; atomicity = Both; report = [] })
judge p c d s (plain i next) = do
  s' ← lock_set_after p c d i s
  rest ← judge p c (d + instruction_size) s' next
  followed (atomicity_of p c s i) (λ more. more) rest
judge p c d s (choice r a b next) = do
  first ← judge p c (d + instruction_size) s a
  second ← judge p c (closer_at d a + instruction_size) s b
  require (same first.locks second.locks) (SetsDiffer (closer_at (closer_at d a) b))
  rest ← judge p c (closer_at (closer_at d a) b + instruction_size) first.locks next
  followed (join first.atomicity second.atomicity) (λ more. first.report ++ 0 ∷ second.report ++ 0 ∷ more) rest
judge p c d s (loop r a next) = do
  body ← judge p c (d + instruction_size) s a
  require (same s body.locks) (SetsDiffer (closer_at d a))
  rest ← judge p c (closer_at d a + instruction_size) s next
  followed (closure body.atomicity) (λ more. body.report ++ 0 ∷ more) rest
judge p c d s (block stated a next) = do
  body ← judge p c (d + instruction_size) s a
  require (not (is_top body.atomicity)) (NotAtomic (closer_at d a))
  require (states_truly stated body.atomicity) (FalseStatement (closer_at d a))
  rest ← judge p c (closer_at d a + instruction_size) body.locks next
  followed body.atomicity (λ more. body.report ++ 0 ∷ more) rest

-- code c, whole: its report, "and then a byte for the thread's whole code". "A thread's code must end with none"
unfoldable pub judge_code : Program → (c : ℕ) → CodeSection → Answer (List ℕ)
judge_code p c section = do
  whole ← judge p c section.start empty (structured section.code)
  require (same whole.locks empty) (SetsDiffer (section.start + instruction_size * length section.code))
  Ok (whole.report ++ report_byte whole.atomicity ∷ [])

-- "threads in order": the codes from c on
unfoldable pub judge_codes : Program → (c : ℕ) → List CodeSection → Answer (List ℕ)
judge_codes p c [] = Ok []
judge_codes p c (section ∷ sections) = do
  report ← judge_code p c section
  reports ← judge_codes p (suc c) sections
  Ok (report ++ reports)

-- the report of a sound file's program, or the first offence of its writer
unfoldable pub judge_program : Program → Answer (List ℕ)
judge_program p = judge_codes p 0 p.codes
