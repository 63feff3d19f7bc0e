-- Judging a program with its statements taken out: the same answer, unless a false statement was found first. Assumes nothing.
--     kind_unstated, set-unstated, atomicity_unstated
--                              neither the lock discipline nor an instruction's atomicity asks for statements
--     AlikeBut18               two answers that are the same, unless the first is an 18
--     alike_bind, alike_require, alike_stated
--                              ... after going on, after a test, after the test of a statement
--     judge_unstated           code
--     code_unstated, codes_unstated, program_unstated
--                              ... a code, the codes from one on, a program
--     sound_unstated           a sound file without its statements is sound
--     report_unstated          its report, unless it is refused with 18
use Rattle.std.proofs.Common.{ℕ, suc, ◌+◌, ◌*◌, ◌≡◌, refl, sym, ap, ◌∙◌, subst, ◌≢◌, Bool, true, false, not, List, [], ◌∷◌, map, None, Ok, Err}
use lib.ListN.{length-map}
use Rattle.program.proofs.Answer.{bind_inv, bind_on, fine_inj}
use Rattle.program.proofs.Unstated.{size_unstated, written_unstated, structured_unstated}
use Rattle.program.proofs.UnstatedFile.{file_cleared}
use Rattle.program.specs.Answer.{Answer, ◌>>=◌, require}
use Rattle.program.specs.Code.{Code, done, plain, choice, loop, block, size, structured}
use Rattle.program.specs.Layout.{Program, CodeSection, reading}
use Rattle.program.specs.Nesting.{first_broken}
use Rattle.program.specs.Unstated.{without_statements}
use Rattle.program.specs.View.{Access, none, reads, writes, takes, gives, access_of}
use Rattle.program.specs.Internal.Unstated.{unstated, unstated_code, unstated_section, unstated_program}
use Rattle.program.specs.declared.instruction.Instruction.{Instruction}
use Rattle.program.specs.declared.refusal.Refusal.{Refusal}
use Rattle.program.specs.declared.refusal.Refusal.TheVariants.{FalseStatement}
use Rattle.judge.specs.Acceptance.{sound, accept}
use Rattle.judge.specs.Discipline.{kind_at, may_race, kind_atomicity, access_atomicity, access_mover, mover_of, atomicity_of, lock_set_after}
use Rattle.judge.specs.LockSet.{empty, same}
use Rattle.judge.specs.Judging.{is_top, states_truly, judge, judge_code, judge_codes, judge_program}
use Rattle.judge.specs.Internal.Nested.{Nested}
use Rattle.judge.specs.declared.lock_set.LockSet.{LockSet}
use Rattle.judge.proofs.Legal.{set-alike}
use Rattle.judge.proofs.RulesFile.{sound_codes_nested}

-- ---- answers

-- the same, unless the first is refused with 18
pub data AlikeBut18 {A : Type 0} (m n : Answer A) : Type 0 where
  alike : m ≡ n → AlikeBut18 m n
  eighteen : (d : ℕ) → m ≡ Err (FalseStatement d) → AlikeBut18 m n

alike_bind : {A B : Type 0} (m n : Answer A) (f g : A → Answer B) → AlikeBut18 m n → ((a : A) → AlikeBut18 (f a) (g a)) → AlikeBut18 (m >>= f) (n >>= g)
alike_bind (Ok a) n f g (alike e) h = subst (λ n. AlikeBut18 (f a) (n >>= g)) e (h a)
alike_bind (Err r) n f g (alike e) h = alike (ap (λ n. n >>= g) e)
alike_bind m n f g (eighteen d e) h = eighteen d (ap (λ m. m >>= f) e)

alike_require : {A : Type 0} (ok : Bool) (r : Refusal) (m n : Answer A) → AlikeBut18 m n → AlikeBut18 (require ok r m) (require ok r n)
alike_require true r m n h = h
alike_require false r m n h = alike refl

-- the test of a statement, and none
alike_stated : {A : Type 0} (ok : Bool) (d : ℕ) (m n : Answer A) → AlikeBut18 m n → AlikeBut18 (require ok (FalseStatement d) m) n
alike_stated true d m n h = h
alike_stated false d m n h = eighteen d refl

module _ (p : Program) where
  -- the program without its statements
  abbrev bare : Program
  bare = unstated_program p

  -- ---- an instruction

  kind_unstated : (v : ℕ) → kind_at bare v ≡ kind_at p v
  unfolding kind_at unstated_program
  kind_unstated v = refl

  set-unstated : (c d : ℕ) (i : Instruction) (s : LockSet) → lock_set_after bare c d i s ≡ lock_set_after p c d i s
  unfolding lock_set_after
  set-unstated c d i s = set-alike p bare kind_unstated c d (access_of i) s

  access_unstated : (c v : ℕ) (w : Bool) → access_atomicity bare c v w ≡ access_atomicity p c v w
  unfolding access_atomicity kind_at unstated_program
  access_unstated c v w = ap (λ (others : Bool). kind_atomicity (kind_at p v) (may_race w others)) (written_unstated p c v)

  mover_unstated : (c : ℕ) (s : LockSet) (x : Access) → access_mover bare c s x ≡ access_mover p c s x
  unfolding access_mover
  mover_unstated c s none = refl
  mover_unstated c s (reads v) = access_unstated c v _
  mover_unstated c s (writes v a) = access_unstated c v _
  mover_unstated c s (takes k) = refl
  mover_unstated c s (gives k) = refl

  atomicity_unstated : (c : ℕ) (s : LockSet) (i : Instruction) → atomicity_of bare c s i ≡ atomicity_of p c s i
  unfolding atomicity_of mover_of
  atomicity_unstated c s i = mover_unstated c s (access_of i)

  -- ---- code

  judge_unstated : (c : ℕ) (x : Code) (d : ℕ) (s : LockSet) → AlikeBut18 (judge p c d s x) (judge bare c d s (unstated_code x))
  unfolding judge unstated_code states_truly
  judge_unstated c done d s = alike refl
  judge_unstated c (plain i x) d s =
      rw (set-unstated c d i s, atomicity_unstated c s i)
      (alike_bind (lock_set_after p c d i s) (lock_set_after p c d i s) _ _ (alike refl) (λ s'.
      alike_bind (judge p c (d + 4) s' x) (judge bare c (d + 4) s' (unstated_code x)) _ _ (judge_unstated c x (d + 4) s') (λ r. alike refl)))
  judge_unstated c (choice r a b x) d s =
      rw (size_unstated a, size_unstated b)
      (alike_bind (judge p c (d + 4) s a) (judge bare c (d + 4) s (unstated_code a)) _ _ (judge_unstated c a (d + 4) s) (λ first.
      alike_bind (judge p c (d + 4 + 4 * size a + 4) s b) (judge bare c (d + 4 + 4 * size a + 4) s (unstated_code b)) _ _ (judge_unstated c b _ s) (λ second.
      alike_require (same first.locks second.locks) _ _ _
      (alike_bind (judge p c (d + 4 + 4 * size a + 4 + 4 * size b + 4) first.locks x) (judge bare c (d + 4 + 4 * size a + 4 + 4 * size b + 4) first.locks (unstated_code x)) _ _
      (judge_unstated c x _ first.locks) (λ r. alike refl)))))
  judge_unstated c (loop r a x) d s =
      rw (size_unstated a)
      (alike_bind (judge p c (d + 4) s a) (judge bare c (d + 4) s (unstated_code a)) _ _ (judge_unstated c a (d + 4) s) (λ body.
      alike_require (same s body.locks) _ _ _
      (alike_bind (judge p c (d + 4 + 4 * size a + 4) s x) (judge bare c (d + 4 + 4 * size a + 4) s (unstated_code x)) _ _ (judge_unstated c x _ s) (λ r. alike refl))))
  judge_unstated c (block stated a x) d s =
      rw (size_unstated a)
      (alike_bind (judge p c (d + 4) s a) (judge bare c (d + 4) s (unstated_code a)) _ _ (judge_unstated c a (d + 4) s) (λ body.
      alike_require (not (is_top body.atomicity)) _ _ _
      (alike_stated (states_truly stated body.atomicity) _ _ _
      (alike_bind (judge p c (d + 4 + 4 * size a + 4) body.locks x) (judge bare c (d + 4 + 4 * size a + 4) body.locks (unstated_code x)) _ _
      (judge_unstated c x _ body.locks) (λ r. alike refl)))))

  -- ---- codes

  code_unstated : (c : ℕ) (section : CodeSection) → first_broken 0 section.code [] ≡ None
      → AlikeBut18 (judge_code p c section) (judge_code bare c (unstated_section section))
  unfolding judge_code
  code_unstated c section nested =
      let code = structured section.code in
      rw (structured_unstated section.code nested, length-map section.code unstated)
      (alike_bind (judge p c section.start empty code) (judge bare c section.start empty (unstated_code code)) _ _
      (judge_unstated c code section.start empty) (λ whole. alike_require (same whole.locks empty) _ _ _ (alike refl)))

  codes_unstated : (c : ℕ) (sections : List CodeSection) → Nested sections → AlikeBut18 (judge_codes p c sections) (judge_codes bare c (map unstated_section sections))
  unfolding judge_codes Nested
  codes_unstated c [] nested = alike refl
  codes_unstated c (section ∷ sections) nested =
      alike_bind (judge_code p c section) (judge_code bare c (unstated_section section)) _ _ (code_unstated c section nested.0) (λ report.
      alike_bind (judge_codes p (suc c) sections) (judge_codes bare (suc c) (map unstated_section sections)) _ _ (codes_unstated (suc c) sections nested.1) (λ reports.
      alike refl))

  pub program_unstated : Nested p.codes → AlikeBut18 (judge_program p) (judge_program bare)
  unfolding judge_program unstated_program
  program_unstated nested = codes_unstated 0 p.codes nested

-- ---- a file

pub sound_unstated : (s : List ℕ) (p : Program) → sound s ≡ Ok p → sound (without_statements s) ≡ Ok (unstated_program p)
unfolding sound
sound_unstated s p e =
    bind_inv (reading s) _ e λ l reads answer.
    let (same, program) = file_cleared s l reads in
    bind_on (reading (without_statements s)) _ same (ap Ok (program ∙ ap unstated_program (fine_inj _ p answer)))

-- the report of a sound file, or its refusal, unless that is 18
pub report_unstated : (s : List ℕ) (p : Program) → sound s ≡ Ok p → ((d : ℕ) → accept s ≢ Err (FalseStatement d))
    → judge_program (unstated_program p) ≡ judge_program p
unfolding accept
report_unstated s p e other = cases (program_unstated p (sound_codes_nested s e))
  where
    cases : AlikeBut18 (judge_program p) (judge_program (unstated_program p)) → judge_program (unstated_program p) ≡ judge_program p
    cases (alike same) = sym same
    cases (eighteen d found) = absurd (other d (bind_on (sound s) _ e (ap (λ (m : Answer (List ℕ)). m >>= λ report. Ok (record { program = p; report = report })) found)))
