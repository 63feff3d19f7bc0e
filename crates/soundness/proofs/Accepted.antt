-- What an accepted file's program is: each thread's code is well nested and names only locks and variables that there are
-- (`sound_nested`), and is typed, so annotated (`judged_annotated`). Assumes nothing.
use Rattle.std.proofs.Common.{ℕ, zero, suc, ◌+◌, ◌*◌, ◌≤◌, ◌<◌, add-zero, zero-add, arith, ◌≡◌, refl, sym, subst, List, [], ◌∷◌, length, get_or, Ok}
use Rattle.std.proofs.Math.Decide.{dec_lt}
use Rattle.std.proofs.Math.Logic.{dite}
use Rattle.std.proofs.Math.ListN.{get_or-eq_default}
use Rattle.judge.specs.Judging.{judge, judge_code, judge_codes, judge_program}
use Rattle.judge.specs.LockSet.{empty}
use Rattle.program.specs.View.{access_of}
use Rattle.program.proofs.Contents.{length-instructions, get_or-instructions, length-variables}
use Rattle.program.proofs.Decode.{instruction_access}
use Rattle.program.proofs.Structure.{nested_flat}
use Rattle.program.specs.Code.{structure, structured}
use Rattle.program.specs.Layout.{Program, CodeSection, program_of, instructions_at, codes_at, code_of}
use Rattle.program.specs.Limits.{records_start, record_offset}
use Rattle.program.specs.Nesting.{first_broken, at_code_end}
use Rattle.program.specs.Internal.Sound.{AccessBelow, SoundFile, SoundSection, SoundSections, count_at}
use Rattle.program.specs.Internal.WellFormed.{WellFormed, Writes}
use Rattle.program.specs.declared.instruction.Instruction.{Instruction}
use Rattle.program.specs.declared.instruction.Instruction.TheVariants.{End}
use Rattle.program.specs.declared.layout.Layout.{Layout}
use Rattle.soundness.specs.Internal.Access.{AccessesBelow}
use Rattle.soundness.specs.Internal.Instance.{Annotated, ThreadsAnnotated}
use Rattle.judge.specs.Rules.{typed_done}
use Rattle.soundness.specs.Internal.WellNested.{no_section, WellNested, Derived}
use Rattle.soundness.proofs.Annotated.{annotated}
use Rattle.judge.proofs.Rules.{judge_typed}
use Rattle.program.proofs.Answer.{bind_inv}

-- ---- from the file: nesting, and the locks and variables named

-- what holds of no code and of every section holds of every thread's code
module _ (P : List Instruction → Type 0) (none : P []) (s : List ℕ) (locks variables : ℕ)
    (each : (at : ℕ) → SoundSection s locks variables at → P (instructions_at locks variables s (count_at s at) (at + 2))) where
  section_code : (n at m : ℕ) → SoundSections s locks variables n at m → (t : ℕ) → P (get_or (codes_at locks variables s n at) t no_section).code
  unfolding codes_at
  section_code zero at m h t = none
  section_code (suc n) at m h zero = each at h.1
  section_code (suc n) at m h (suc t) = section_code n (at + 2 + 4 * count_at s at) h.0 h.3 t

-- the accesses of a section's instructions, and of END behind them
accesses_at : (locks variables : ℕ) (s : List ℕ) (n at q : ℕ) → AccessBelow locks variables (access_of (get_or (instructions_at locks variables s n at) q End))
unfolding access_of
accesses_at locks variables s n at q = dite (dec_lt q n)
    (λ (h : q < n).
    subst (λ (i : Instruction). AccessBelow locks variables (access_of i)) (sym (get_or-instructions locks variables s n at q h))
    (instruction_access locks variables s (at + 4 * q)))
    (λ (k : ¬ (q < n)).
    let out : length (instructions_at locks variables s n at) ≤ q = omega (arith, length-instructions locks variables s n at) in
    subst (λ (i : Instruction). AccessBelow locks variables (access_of i)) (sym (get_or-eq_default (instructions_at locks variables s n at) End out)) tt)

writes_nothing : Writes [] (structured [])
unfolding first_broken at_code_end
writes_nothing = nested_flat [] refl

pub sound_nested : (s : List ℕ) (l : Layout) → SoundFile s l → WellNested (program_of s l)
unfolding program_of code_of access_of
sound_nested s l h =
    let count : l.variables ≡ length (program_of s l).variables = sym (length-variables l.locks l.threads s l.variables records_start) in
    record {
      writes = λ t. section_code (λ (is : List Instruction). Writes is (structured is)) writes_nothing s l.locks l.variables
          (λ at x. nested_flat (instructions_at l.locks l.variables s (count_at s at) (at + 2)) x.nested)
          l.threads (record_offset l.variables) l.instructions h.sections t;
      accesses = λ t. section_code (AccessesBelow (program_of s l)) (λ q. tt) s l.locks l.variables
          (λ at x q. subst (λ (v : ℕ). AccessBelow l.locks v (access_of (get_or (instructions_at l.locks l.variables s (count_at s at) (at + 2)) q End))) count
          (accesses_at l.locks l.variables s (count_at s at) (at + 2) q))
          l.threads (record_offset l.variables) l.instructions h.sections t;
    }

-- ---- from judging: derivations

derived_nothing : (p : Program) (t : ℕ) → Derived p t []
unfolding structured structure
derived_nothing p t = (_, _, typed_done)

derived_code : (p : Program) (t : ℕ) (section : CodeSection) {r : List ℕ} → WellFormed (structured section.code)
    → judge_code p t section ≡ Ok r → Derived p t section.code
unfolding judge_code
derived_code p t section w e =
    bind_inv (judge p t section.start empty (structured section.code)) _ e λ r f g.
    (r.locks, r.atomicity, judge_typed p t (structured section.code) w section.start empty f)

derived_codes : (p : Program) (n : ℕ) (l : List CodeSection) {r : List ℕ} → judge_codes p n l ≡ Ok r
    → (t : ℕ) → WellFormed (structured (get_or l t no_section).code) → Derived p (n + t) (get_or l t no_section).code
unfolding judge_codes
derived_codes p n [] e t w = derived_nothing p (n + t)
derived_codes p n (x ∷ l) e zero w =
    bind_inv (judge_code p n x) _ e λ r f g.
    subst (λ (m : ℕ). Derived p m x.code) (sym (add-zero n)) (derived_code p n x w f)
derived_codes p n (x ∷ l) e (suc t) w =
    bind_inv (judge_code p n x) _ e λ r f g.
    bind_inv (judge_codes p (suc n) l) _ g λ rs f' g'.
    subst (λ (m : ℕ). Derived p m (get_or l t no_section).code) (omega arith) (derived_codes p (suc n) l f' t w)

derived : (p : Program) {r : List ℕ} → judge_program p ≡ Ok r → (t : ℕ) → WellFormed (structured (code_of p t)) → Derived p t (code_of p t)
unfolding judge_program code_of
derived p e t w = subst (λ (m : ℕ). Derived p m (get_or p.codes t no_section).code) (zero-add t) (derived_codes p 0 p.codes e t w)

-- each thread of a well nested program that is judged well is annotated
pub judged_annotated : (p : Program) {r : List ℕ} → WellNested p → judge_program p ≡ Ok r → ThreadsAnnotated p
judged_annotated p n e t =
    let (_, _, d) = derived p e t (n.writes t).well_formed in
    subst (Annotated p t empty) (n.writes t).flat_is (annotated d (subst (AccessesBelow p) (sym (n.writes t).flat_is) (n.accesses t)))
