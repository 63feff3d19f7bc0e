-- The rules of judging as derivations (the standard, "Lock discipline", "Rules", "The report").
-- What judging finds is exactly what these rules derive (`proofs/Rules.antt`); they speak of no offset and of no order of offences.
--
-- In order: the lock discipline, a rule for each access and kind of variable; the rules, one for each construct; the report of a
-- derivation; a code, and a program.
use Rattle.std.specs.Prelude.{ℕ, suc, ◌≡◌, ◌≢◌, true, false, List, [], ◌∷◌, ◌++◌}
use Rattle.atomicity.specs.Atomicity.{report_byte, composition, join, closure}
use Rattle.atomicity.specs.declared.Atomicity.{Atomicity}
use Rattle.atomicity.specs.declared.Atomicity.TheVariants.{Both, Top}
use Rattle.program.specs.Code.{Code, done, plain, choice, loop, block, structured}
use Rattle.program.specs.View.{Access, none, reads, writes, takes, gives, access_of, form_of, Plain}
use Rattle.program.specs.Layout.{Program, CodeSection}
use Rattle.program.specs.declared.instruction.Instruction.{Instruction}
use Rattle.program.specs.declared.variable.Kind.TheVariants.{Guarded, Own, Fixed, Open}
use Rattle.judge.specs.Discipline.{kind_at, atomicity_of}
use Rattle.judge.specs.LockSet.{empty, holds, with_lock, without_lock}
use Rattle.judge.specs.declared.lock_set.LockSet.{LockSet}

-- ---- the lock discipline

-- `Legal p c x s s'`: the access x of code c keeps the lock discipline with the lock set s, and leads to s'. A rule for each access
-- and kind of variable; a WRITE of a fixed one has none
pub data Legal (p : Program) (c : ℕ) : Access → LockSet → LockSet → Type 0 where
  -- an instruction that accesses nothing
  legal_none : {s : LockSet} → Legal p c none s s
  -- "A guarded variable is read or written only with its lock in the set"
  legal_read_guarded : {v g : ℕ} {s : LockSet} → kind_at p v ≡ Guarded g → holds s g ≡ true → Legal p c (reads v) s s
  legal_write_guarded : {v a g : ℕ} {s : LockSet} → kind_at p v ≡ Guarded g → holds s g ≡ true → Legal p c (writes v a) s s
  -- "an own one only by its thread"
  legal_read_own : {v : ℕ} {s : LockSet} → kind_at p v ≡ Own c → Legal p c (reads v) s s
  legal_write_own : {v a : ℕ} {s : LockSet} → kind_at p v ≡ Own c → Legal p c (writes v a) s s
  -- "a fixed one is never written"
  legal_read_fixed : {v : ℕ} {s : LockSet} → kind_at p v ≡ Fixed → Legal p c (reads v) s s
  -- "an open one freely"
  legal_read_open : {v : ℕ} {s : LockSet} → kind_at p v ≡ Open → Legal p c (reads v) s s
  legal_write_open : {v a : ℕ} {s : LockSet} → kind_at p v ≡ Open → Legal p c (writes v a) s s
  -- "TAKE adds its lock", which is not in the set
  legal_take : {k : ℕ} {s : LockSet} → holds s k ≡ false → Legal p c (takes k) s (with_lock s k)
  -- "GIVE takes it out", and it is in the set
  legal_give : {k : ℕ} {s : LockSet} → holds s k ≡ true → Legal p c (gives k) s (without_lock s k)

-- ---- the rules

-- `States n x`: an ATOMIC whose field a is n states nothing, or exactly the atomicity x of its block
pub data States : ℕ → Atomicity → Type 0 where
  -- "0 means not stated"
  states_nothing : {x : Atomicity} → States 0 x
  -- "A stated value must be exactly the one worked out"
  states_it : {x : Atomicity} → States (report_byte x) x

-- `Typed p c s x s' a`: the part x of code c leads from the lock set s to s' and has atomicity a. Each construct is composed with what
-- follows it
pub data Typed (p : Program) (c : ℕ) : LockSet → Code → LockSet → Atomicity → Type 0 where
  -- "an empty one is B"
  typed_done : {s : LockSet} → Typed p c s done s Both
  -- a plain instruction that keeps the lock discipline
  typed_plain : {i : Instruction} {next : Code} {s s' s'' : LockSet} {a : Atomicity}
      → form_of i ≡ Plain → Legal p c (access_of i) s s' → Typed p c s' next s'' a
      → Typed p c s (plain i next) s'' (composition (atomicity_of p c s i) a)
  -- "IF is the join of its two parts"; they "start with the set at the IF and must end with equal sets"
  typed_choice : {r : ℕ} {a b next : Code} {s s' s'' : LockSet} {x y z : Atomicity}
      → Typed p c s a s' x → Typed p c s b s' y → Typed p c s' next s'' z
      → Typed p c s (choice r a b next) s'' (composition (join x y) z)
  -- "WHILE is the closure of its body", which "must end with the set it began with"
  typed_loop : {r : ℕ} {a next : Code} {s s'' : LockSet} {x z : Atomicity}
      → Typed p c s a s x → Typed p c s next s'' z
      → Typed p c s (loop r a next) s'' (composition (closure x) z)
  -- "ATOMIC has its body's atomicity, which must not be T", and states no other
  typed_block : {n : ℕ} {a next : Code} {s s' s'' : LockSet} {x z : Atomicity}
      → Typed p c s a s' x → x ≢ Top → States n x → Typed p c s' next s'' z
      → Typed p c s (block n a next) s'' (composition x z)

-- ---- the report

-- "a byte for each instruction (0 for ELSE, AGAIN and END; the whole construct's at its opener)"
unfoldable pub report : {p : Program} {c : ℕ} {s s' : LockSet} {x : Code} {a : Atomicity} → Typed p c s x s' a → List ℕ
report typed_done = []
report {p} {c} (typed_plain {i = i} {s = s} f l rest) = report_byte (atomicity_of p c s i) ∷ report rest
report (typed_choice {x = x} {y = y} first second rest) = report_byte (join x y) ∷ report first ++ 0 ∷ report second ++ 0 ∷ report rest
report (typed_loop {x = x} body rest) = report_byte (closure x) ∷ report body ++ 0 ∷ report rest
report (typed_block {x = x} body proper stated rest) = report_byte x ∷ report body ++ 0 ∷ report rest

-- ---- codes and programs

-- code c, whole. "Each thread starts with no locks held"; "A thread's code must end with none"
pub record TypedCode (p : Program) (c : ℕ) (code : List Instruction) : Type 0 where
  pub atomicity : Atomicity
  pub typed : Typed p c empty (structured code) empty atomicity

-- "a byte for each instruction .. and then a byte for the thread's whole code"
unfoldable pub code_report : {p : Program} {c : ℕ} {code : List Instruction} → TypedCode p c code → List ℕ
code_report whole = report whole.typed ++ report_byte whole.atomicity ∷ []

-- the codes from c on, each of them
pub data TypedCodes (p : Program) : ℕ → List CodeSection → Type 0 where
  typed_none : {c : ℕ} → TypedCodes p c []
  typed_code : {c : ℕ} {section : CodeSection} {sections : List CodeSection}
      → TypedCode p c section.code → TypedCodes p (suc c) sections
      → TypedCodes p c (section ∷ sections)

unfoldable pub codes_report : {p : Program} {c : ℕ} {sections : List CodeSection} → TypedCodes p c sections → List ℕ
codes_report typed_none = []
codes_report (typed_code whole rest) = code_report whole ++ codes_report rest

-- a program, and its report: the codes' reports in order
abbrev pub TypedProgram : Program → Type 0
TypedProgram p = TypedCodes p 0 p.codes

abbrev pub program_report : {p : Program} → TypedProgram p → List ℕ
program_report codes = codes_report codes
