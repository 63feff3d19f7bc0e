-- The scan over the codes of a program is the rules over them. Assumes nothing.
--     code_size       a code's report has a byte for each instruction, and one for the whole
--     code_agrees     one code
--     codes_agree     the codes of sections that are well nested
--     codes_size      how many bytes their reports have
use Rattle.std.proofs.Common.{ℕ, suc, ◌+◌, ◌*◌, ◌≡◌, refl, sym, ◌∙◌, ap, List, [], ◌∷◌, append-nil, arith, length, set, length-append, Ok}
use lib.Seq.{sets}
use Rattle.atomicity.specs.Atomicity.{report_byte}
use Rattle.atomicity.specs.declared.Atomicity.{Atomicity}
use Rattle.atomicity.specs.declared.Atomicity.TheVariants.{Both}
use Rattle.atomicity.proofs.Laws.{both_then}
use Rattle.program.specs.Answer.{Answer, ◌>>=◌}
use Rattle.program.specs.Code.{size, structured}
use Rattle.program.specs.Layout.{Program, CodeSection}
use Rattle.program.specs.Internal.Sound.{report_size}
use Rattle.program.specs.Internal.WellFormed.{flat, Writes}
use Rattle.program.specs.declared.instruction.Instruction.{Instruction}
use Rattle.program.specs.declared.refusal.Refusal.TheVariants.{SetsDiffer}
use Rattle.program.proofs.Answer.{Holds, bind_assoc, bind_ext, bind_holds, require_bind, require_ext, require_holds, holds_fine}
use Rattle.program.proofs.Lists.{sets-append}
use Rattle.program.proofs.Structure.{nested_flat}
use Rattle.program.proofs.StructureFlat.{length-flat}
use Rattle.judge.specs.Judging.{judge, judge_code, judge_codes}
use Rattle.judge.specs.LockSet.{empty, same}
use Rattle.judge.specs.Internal.Nested.{Nested}
use Rattle.judge.specs.Internal.Scan.{Carried, scan, starting, ending, scan_code, scan_codes}
use Rattle.judge.proofs.Scanning.{report_size_lem, scan_agrees}

-- the size of the code that instructions write out
size_of : (section : CodeSection) → Writes section.code (structured section.code) → size (structured section.code) ≡ length section.code
size_of section w = sym (length-flat (structured section.code)) ∙ ap (λ (is : List Instruction). length is) w.flat_is

module _ (p : Program) where
  -- a byte for each instruction, and one for the whole
  pub code_size : (t : ℕ) (section : CodeSection) → Writes section.code (structured section.code)
      → Holds (λ (bytes : List ℕ). length bytes ≡ length section.code + 1) (judge_code p t section)
  unfolding judge_code
  code_size t section w =
      let c = structured section.code in
      let size_is = size_of section w in
      bind_holds _ _ (judge p t section.start empty c) _ (report_size_lem p t c section.start empty) (λ r n.
      require_holds _ (same r.locks empty) _ _ (simp length-append (omega arith)))

  pub code_agrees : (t at : ℕ) (report : List ℕ) (section : CodeSection) → Writes section.code (structured section.code)
      → scan_code p t at report section ≡ (judge_code p t section >>= λ bytes. Ok (sets report at bytes))
  unfolding scan_code judge_code starting scan ending
  code_agrees t at report section w =
      let c = structured section.code in
      let n = length section.code in
      let end = section.start + 4 * n in
      let size_is = size_of section w in
      ap (λ (is : List Instruction). scan p t section.start at (starting report) is >>= ending end (at + n)) (sym (append-nil (flat c) ∙ w.flat_is))
      ∙ ap (λ (m : Answer Carried). m >>= ending end (at + n))
      (scan_agrees p t c section.start at empty Both [] report [] w.well_formed)
      ∙ bind_assoc (judge p t section.start empty c) _ (ending end (at + n))
      ∙ bind_ext (judge p t section.start empty c) _ _ (λ r e.
      let m = holds_fine _ (judge p t section.start empty c) r (report_size_lem p t c section.start empty) e in
      require_ext (same r.locks empty) (SetsDiffer end) _ _ (λ _.
      let place : at + n ≡ at + length r.report = omega arith in
      let last = report_byte r.atomicity in
      ap (λ (a : Atomicity). Ok (set (sets report at r.report) (at + n) (report_byte a))) (both_then r.atomicity)
      ∙ ap (λ (k : ℕ). Ok (set (sets report at r.report) k last)) place
      ∙ ap (λ (bytes : List ℕ). Ok bytes) (sym (sets-append report at r.report (last ∷ []))))
      ∙ sym (require_bind (same r.locks empty) (SetsDiffer end) _ _))
      ∙ sym (bind_assoc (judge p t section.start empty c) _ _)

  pub codes_agree : (t at : ℕ) (report : List ℕ) (sections : List CodeSection) → Nested sections
      → scan_codes p t at report sections ≡ (judge_codes p t sections >>= λ bytes. Ok (sets report at bytes))
  unfolding scan_codes judge_codes Nested
  codes_agree t at report [] w = refl
  codes_agree t at report (section ∷ sections) w =
      let next = at + length section.code + 1 in
      ap (λ (m : Answer (List ℕ)). m >>= λ left. scan_codes p (suc t) next left sections) (code_agrees t at report section (nested_flat section.code w.0))
      ∙ bind_assoc (judge_code p t section) _ _
      ∙ bind_ext (judge_code p t section) _ _ (λ bytes e.
      let n = holds_fine _ (judge_code p t section) bytes (code_size t section (nested_flat section.code w.0)) e in
      let place : next ≡ at + length bytes = omega arith in
      codes_agree (suc t) next (sets report at bytes) sections w.1
      ∙ bind_ext (judge_codes p (suc t) sections) _ _ (λ more _.
      ap (λ (k : ℕ). Ok (sets (sets report at bytes) k more)) place
      ∙ ap (λ (left : List ℕ). Ok left) (sym (sets-append report at bytes more)))
      ∙ sym (bind_assoc (judge_codes p (suc t) sections) _ _))
      ∙ sym (bind_assoc (judge_code p t section) _ _)

  pub codes_size : (t : ℕ) (sections : List CodeSection) → Nested sections
      → Holds (λ (bytes : List ℕ). length bytes ≡ report_size sections) (judge_codes p t sections)
  unfolding judge_codes Nested report_size
  codes_size t [] w = refl
  codes_size t (section ∷ sections) w =
      bind_holds _ _ (judge_code p t section) _ (code_size t section (nested_flat section.code w.0)) (λ bytes n.
      bind_holds _ _ (judge_codes p (suc t) sections) _ (codes_size (suc t) sections w.1) (λ more m. simp length-append (omega arith)))
