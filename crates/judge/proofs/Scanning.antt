-- The scan over flat code is the rules over structured code. Assumes nothing.
--     carried_after            what is carried on from code that was judged so
--     Sized, report_size_lem   the report has a byte for each instruction
--     Agrees                   the theorem's claim: scanning code, and then what follows, is judging it, and then scanning what follows
--     done_agrees, plain_agrees, choice_agrees, loop_agrees, block_agrees
--                              each construct
--     scan_agrees              any code
use Rattle.std.proofs.Common.{ℕ, suc, ◌+◌, ◌*◌, ◌≡◌, refl, sym, ◌∙◌, ap, Bool, true, false, not, List, ◌∷◌, ◌++◌, append_assoc, arith, length, set, length-append, Ok}
use lib.Seq.{sets}
use Rattle.atomicity.specs.Atomicity.{report_byte, composition, join, closure}
use Rattle.atomicity.specs.declared.Atomicity.{Atomicity}
use Rattle.atomicity.specs.declared.Atomicity.TheVariants.{Both}
use Rattle.atomicity.proofs.Laws.{then_assoc, both_then, then_both}
use Rattle.program.specs.View.{access_of, form_of, statement_of}
use Rattle.program.specs.Answer.{Answer, ◌>>=◌, require}
use Rattle.program.specs.Code.{Code, done, plain, choice, loop, block, size}
use Rattle.program.specs.Layout.{Program}
use Rattle.program.specs.Internal.WellFormed.{flat, WellFormed}
use Rattle.program.specs.declared.instruction.Instruction.{Instruction}
use Rattle.program.specs.declared.instruction.Instruction.TheVariants as instruction
use Rattle.program.specs.declared.refusal.Refusal.{Refusal}
use Rattle.program.specs.declared.refusal.Refusal.TheVariants.{SetsDiffer, NotAtomic, FalseStatement}
use Rattle.program.proofs.Answer.{Holds, bind_assoc, bind_ext, bind_holds, bind_any, require_bind, require_ext, require_holds, holds_fine}
use Rattle.judge.specs.Discipline.{lock_set_after, atomicity_of, mover_of}
use Rattle.judge.specs.Judging.{Finding, judge, is_top, states_truly}
use Rattle.judge.specs.LockSet.{same}
use Rattle.judge.specs.Internal.Effect.{form_effect, effect_of}
use Rattle.judge.specs.Internal.Scan.{Carried, carried, opened_frame, other_part, end_of, closed, applied, scan}
use Rattle.judge.specs.declared.frame.Frame.{Frame}
use Rattle.judge.specs.declared.frame.Part.{Part}
use Rattle.judge.specs.declared.frame.Part.TheVariants as part
use Rattle.judge.specs.declared.lock_set.LockSet.{LockSet}
use Rattle.judge.specs.declared.effect.Effect.{Effect}
use Rattle.judge.specs.declared.effect.Effect.TheVariants.{Opens, Closes}
use Rattle.judge.specs.declared.frame.Closed.{Closed}
use Rattle.judge.specs.declared.frame.Closed.TheVariants.{Whole}
use Rattle.judge.proofs.Effects.{access_applied, plain_effect}
use Rattle.judge.proofs.LockSets.{same_eq}
use Rattle.judge.proofs.Reports.{sets-parts, sets-closed}

-- what is carried on from code that was judged so, begun with the atomicity a in its part
abbrev pub carried_after : (at : ℕ) → Atomicity → List Frame → List ℕ → Finding → Carried
carried_after at a fs report r = carried r.locks (composition a r.atomicity) fs (sets report at r.report)

module _ (p : Program) (t : ℕ) where
  -- the report has a byte for each instruction
  abbrev pub Sized : Code → Type 0
  Sized c = (d : ℕ) (s : LockSet) → Holds (λ r. length r.report ≡ size c) (judge p t d s c)

  pub report_size_lem : (c : Code) → Sized c
  unfolding judge size
  report_size_lem done d s = refl
  report_size_lem (plain i c) d s =
      bind_any _ (lock_set_after p t d i s) _ (λ s'.
      bind_holds _ _ (judge p t (d + 4) s' c) _ (report_size_lem c (d + 4) s') (λ r n. omega arith))
  report_size_lem (choice x a b c) d s =
      bind_holds _ _ (judge p t (d + 4) s a) _ (report_size_lem a (d + 4) s) (λ r n.
      bind_holds _ _ (judge p t (d + 4 + 4 * size a + 4) s b) _ (report_size_lem b (d + 4 + 4 * size a + 4) s) (λ q m.
      require_holds _ (same r.locks q.locks) _ _
      (bind_holds _ _ (judge p t (d + 4 + 4 * size a + 4 + 4 * size b + 4) r.locks c) _ (report_size_lem c _ r.locks) (λ u k.
      simp length-append (omega arith)))))
  report_size_lem (loop x a c) d s =
      bind_holds _ _ (judge p t (d + 4) s a) _ (report_size_lem a (d + 4) s) (λ r n.
      require_holds _ (same s r.locks) _ _
      (bind_holds _ _ (judge p t (d + 4 + 4 * size a + 4) s c) _ (report_size_lem c _ s) (λ u k. simp length-append (omega arith))))
  report_size_lem (block stated a c) d s =
      bind_holds _ _ (judge p t (d + 4) s a) _ (report_size_lem a (d + 4) s) (λ r n.
      require_holds _ (not (is_top r.atomicity)) _ _
      (require_holds _ (states_truly stated r.atomicity) _ _
      (bind_holds _ _ (judge p t (d + 4 + 4 * size a + 4) r.locks c) _ (report_size_lem c _ r.locks) (λ u k. simp length-append (omega arith)))))

  -- the theorem's claim for code c
  abbrev pub Agrees : Code → Type 0
  Agrees c = (d at : ℕ) (s : LockSet) (a : Atomicity) (fs : List Frame) (report : List ℕ) (rest : List Instruction)
      → WellFormed c
      → scan p t d at (carried s a fs report) (flat c ++ rest)
      ≡ (judge p t d s c >>= λ r. scan p t (d + 4 * size c) (at + size c) (carried_after at a fs report r) rest)

  -- the same scan, its offset, index, atomicity and report told otherwise
  scan_eq : (d d' at at' : ℕ) (s : LockSet) (a a' : Atomicity) (fs : List Frame) (report report' : List ℕ)
      (rest : List Instruction) → d ≡ d' → at ≡ at' → a ≡ a' → report ≡ report'
      → scan p t d at (carried s a fs report) rest ≡ scan p t d' at' (carried s a' fs report') rest
  scan_eq d d' at at' s a a' fs report report' rest e₁ e₂ e₃ e₄ = cc

  done_agrees : Agrees done
  unfolding flat judge size
  done_agrees d at s a fs report rest w =
      scan_eq d (d + 4 * 0) at (at + 0) s a (composition a Both) fs report report rest (omega arith) (omega arith) (sym (then_both a)) refl

  -- what follows a construct of atomicity b that put the bytes of `whole` in front of those that follow
  then_agrees : (c : Code) → Agrees c → (d m at at' n : ℕ) (s : LockSet) (a b : Atomicity) (fs : List Frame)
      (report report' : List ℕ) (whole : List ℕ → List ℕ) (rest : List Instruction)
      → WellFormed c
      → d + 4 * size c ≡ m → at' + size c ≡ n → ((v : List ℕ) → sets report' at' v ≡ sets report at (whole v))
      → scan p t d at' (carried s (composition a b) fs report') (flat c ++ rest)
      ≡ ((judge p t d s c >>= λ r. Ok (record { locks = r.locks; atomicity = composition b r.atomicity; report = whole r.report }))
      >>= λ r. scan p t m n (carried_after at a fs report r) rest)
  then_agrees c next d m at at' n s a b fs report report' whole rest w e₁ e₂ e₃ =
      next d at' s (composition a b) fs report' rest w
      ∙ bind_ext (judge p t d s c) _ _ (λ r e.
      scan_eq (d + 4 * size c) m (at' + size c) n r.locks (composition (composition a b) r.atomicity)
      (composition a (composition b r.atomicity)) fs (sets report' at' r.report) (sets report at (whole r.report)) rest
      e₁ e₂ (then_assoc a b r.atomicity) (e₃ r.report))
      ∙ sym (bind_assoc (judge p t d s c) _ _)

  plain_agrees : (i : Instruction) (c : Code) → Agrees c → Agrees (plain i c)
  unfolding flat judge size scan WellFormed lock_set_after atomicity_of mover_of
  plain_agrees i c next d at s a fs report rest w =
      let b = atomicity_of p t s i in
      let report' = set report at (report_byte b) in
      let step : (effect_of p t d i s >>= λ e. applied e d at (carried s a fs report)) ≡ (lock_set_after p t d i s >>= λ s'. Ok (carried s' (composition a b) fs report')) =
      ap (λ (m : Answer Effect). m >>= λ e. applied e d at (carried s a fs report)) (plain_effect p t d i s w.0) ∙ access_applied d at s a fs report p t (access_of i) in
      sym (bind_assoc (effect_of p t d i s) _ _)
      ∙ ap (λ (m : Answer Carried). m >>= λ y. scan p t (d + 4) (suc at) y (flat c ++ rest)) step
      ∙ (bind_assoc (lock_set_after p t d i s) (λ s'. Ok (carried s' (composition a b) fs report')) (λ y. scan p t (d + 4) (suc at) y (flat c ++ rest))
      ∙ bind_ext (lock_set_after p t d i s) _ _ (λ s' e.
      then_agrees c next (d + 4) (d + 4 * size (plain i c)) at (suc at) (at + size (plain i c)) s' a b fs report report'
      (λ v. report_byte b ∷ v) rest w.1 (omega arith) (omega arith) (λ v. refl))
      ∙ sym (bind_assoc (lock_set_after p t d i s) _ _))

  -- past an opener
  scan_opener : (part : Part) (d at : ℕ) (i : Instruction) (is : List Instruction) (s : LockSet) (a : Atomicity) (fs : List Frame)
      (report : List ℕ) → effect_of p t d i s ≡ Ok (Opens part)
      → scan p t d at (carried s a fs report) (i ∷ is) ≡ scan p t (d + 4) (suc at) (carried s Both (opened_frame part at s a ∷ fs) report) is
  unfolding scan applied
  scan_opener part d at i is s a fs report e = rw e

  -- over the part that an opener opens
  part_agrees : (c : Code) → Agrees c → (d at : ℕ) (s : LockSet) (fs : List Frame) (report : List ℕ) (rest : List Instruction)
      → WellFormed c
      → scan p t d at (carried s Both fs report) (flat c ++ rest)
      ≡ (judge p t d s c >>= λ r. scan p t (d + 4 * size c) (at + size c) (carried r.locks r.atomicity fs (sets report at r.report)) rest)
  part_agrees c next d at s fs report rest w =
      next d at s Both fs report rest w
      ∙ bind_ext (judge p t d s c) _ _ (λ r e. rw (both_then r.atomicity))

  -- a test of a closer
  closer_test : (ok : Bool) (refusal : Refusal) (m : Answer Closed) (f : Frame) (s : LockSet) (a : Atomicity) (fs : List Frame)
      (report : List ℕ) (go : Carried → Answer Carried)
      → ((require ok refusal m >>= λ b. Ok (closed b f s a fs report)) >>= go) ≡ require ok refusal ((m >>= λ b. Ok (closed b f s a fs report)) >>= go)
  closer_test true refusal m f s a fs report go = refl
  closer_test false refusal m f s a fs report go = refl

  -- past a closer whose construct has atomicity b, if it passes its test
  scan_closer : (ok : Bool) (refusal : Refusal) (d at : ℕ) (s : LockSet) (a b : Atomicity) (f : Frame) (fs : List Frame)
      (report : List ℕ) (go : Carried → Answer Carried) → end_of f.part d f s a ≡ require ok refusal (Ok (Whole b))
      → (applied Closes d at (carried s a (f ∷ fs) report) >>= go)
      ≡ require ok refusal (go (carried s (composition f.before b) fs (set (set report at 0) f.opener (report_byte b))))
  unfolding applied
  scan_closer ok refusal d at s a b f fs report go e = rw e (closer_test ok refusal (Ok (Whole b)) f s a fs (set report at 0) go)

  -- past the END of a block, if it passes both tests
  scan_block_end : (stated d at at₀ : ℕ) (s s₀ : LockSet) (a a₀ : Atomicity) (fs : List Frame) (report : List ℕ) (go : Carried → Answer Carried)
      → (applied Closes d at (carried s a (opened_frame (part.Block stated) at₀ s₀ a₀ ∷ fs) report) >>= go)
      ≡ require (not (is_top a)) (NotAtomic d) (require (states_truly stated a) (FalseStatement d)
      (go (carried s (composition a₀ a) fs (set (set report at 0) at₀ (report_byte a)))))
  unfolding applied
  scan_block_end stated d at at₀ s s₀ a a₀ fs report go =
      let f = opened_frame (part.Block stated) at₀ s₀ a₀ in
      closer_test (not (is_top a)) (NotAtomic d) (require (states_truly stated a) (FalseStatement d) (Ok (Whole a))) f s a fs (set report at 0) go
      ∙ ap (λ (m : Answer Carried). require (not (is_top a)) (NotAtomic d) m)
      (closer_test (states_truly stated a) (FalseStatement d) (Ok (Whole a)) f s a fs (set report at 0) go)

  -- past an ELSE
  scan_else : (d at at₀ : ℕ) (s s₀ : LockSet) (a a₀ : Atomicity) (fs : List Frame) (report : List ℕ)
      → applied Closes d at (carried s a (opened_frame part.Then at₀ s₀ a₀ ∷ fs) report)
      ≡ Ok (carried s₀ Both (other_part (opened_frame part.Then at₀ s₀ a₀) s a ∷ fs) (set report at 0))
  unfolding applied
  scan_else d at at₀ s s₀ a a₀ fs report = refl

  -- what follows a construct whose closer has its byte at at₁, with the bytes `inside` between opener and closer
  construct_agrees : (c : Code) → Agrees c → (d m at at₁ n : ℕ) (s : LockSet) (a b : Atomicity) (fs : List Frame)
      (report inside : List ℕ) (rest : List Instruction)
      → WellFormed c
      → d + 4 * size c ≡ m → suc at₁ + size c ≡ n → at₁ ≡ suc at + length inside
      → scan p t d (suc at₁)
      (carried s (composition a b) fs (set (set (sets report (suc at) inside) at₁ 0) at (report_byte b))) (flat c ++ rest)
      ≡ ((judge p t d s c >>= λ r. Ok (record
      { locks = r.locks; atomicity = composition b r.atomicity; report = report_byte b ∷ (inside ++ 0 ∷ r.report) }))
      >>= λ r. scan p t m n (carried_after at a fs report r) rest)
  construct_agrees c next d m at at₁ n s a b fs report inside rest w e₁ e₂ e₃ =
      then_agrees c next d m at (suc at₁) n s a b fs report (set (set (sets report (suc at) inside) at₁ 0) at (report_byte b))
      (λ v. report_byte b ∷ (inside ++ 0 ∷ v)) rest w e₁ e₂ (λ v. sets-closed report at at₁ (report_byte b) inside v e₃)

  loop_agrees : (x : ℕ) (body c : Code) → Agrees body → Agrees c → Agrees (loop x body c)
  unfolding flat judge size scan applied WellFormed form_of effect_of form_effect
  loop_agrees x body c inside next d at s a fs report rest w =
      let frame = opened_frame part.Body at s a in
      let d₁ = d + 4 + 4 * size body in
      let at₁ = suc at + size body in
      let more = instruction.Again (size body + 1) ∷ (flat c ++ rest) in
      ap (λ (is : List Instruction). scan p t d at (carried s a fs report) (instruction.While x (size body + 1) ∷ is))
      (append_assoc (flat body) (instruction.Again (size body + 1) ∷ flat c) rest)
      ∙ scan_opener part.Body d at (instruction.While x (size body + 1)) (flat body ++ more) s a fs report refl
      ∙ part_agrees body inside (d + 4) (suc at) s (frame ∷ fs) report more w.0
      ∙ bind_ext (judge p t (d + 4) s body) _ _ (λ r e.
      let n = holds_fine _ (judge p t (d + 4) s body) r (report_size_lem body (d + 4) s) e in
      scan_closer (same s r.locks) (SetsDiffer d₁) d₁ at₁ r.locks r.atomicity (closure r.atomicity) frame fs
      (sets report (suc at) r.report) (λ y. scan p t (d₁ + 4) (suc at₁) y (flat c ++ rest)) refl
      ∙ require_ext (same s r.locks) (SetsDiffer d₁) _ _ (λ ok.
      ap (λ (u : LockSet). scan p t (d₁ + 4) (suc at₁)
      (carried u (composition a (closure r.atomicity)) fs (set (set (sets report (suc at) r.report) at₁ 0) at (report_byte (closure r.atomicity)))) (flat c ++ rest))
      (sym (same_eq s r.locks ok))
      ∙ construct_agrees c next (d₁ + 4) (d + 4 * size (loop x body c)) at at₁ (at + size (loop x body c)) s a (closure r.atomicity) fs
      report r.report rest w.1 (omega arith) (omega arith) (omega arith))
      ∙ sym (require_bind (same s r.locks) (SetsDiffer d₁) _ _))
      ∙ sym (bind_assoc (judge p t (d + 4) s body) _ _)

  block_agrees : (stated : ℕ) (body c : Code) → Agrees body → Agrees c → Agrees (block stated body c)
  unfolding flat judge size scan applied WellFormed form_of statement_of effect_of form_effect
  block_agrees stated body c inside next d at s a fs report rest w =
      let frame = opened_frame (part.Block stated) at s a in
      let d₁ = d + 4 + 4 * size body in
      let at₁ = suc at + size body in
      let more = instruction.End ∷ (flat c ++ rest) in
      ap (λ (is : List Instruction). scan p t d at (carried s a fs report) (instruction.Atomic stated (size body + 1) ∷ is))
      (append_assoc (flat body) (instruction.End ∷ flat c) rest)
      ∙ scan_opener (part.Block stated) d at (instruction.Atomic stated (size body + 1)) (flat body ++ more) s a fs report refl
      ∙ part_agrees body inside (d + 4) (suc at) s (frame ∷ fs) report more w.0
      ∙ bind_ext (judge p t (d + 4) s body) _ _ (λ r e.
      let n = holds_fine _ (judge p t (d + 4) s body) r (report_size_lem body (d + 4) s) e in
      scan_block_end stated d₁ at₁ at r.locks s r.atomicity a fs (sets report (suc at) r.report) (λ y. scan p t (d₁ + 4) (suc at₁) y (flat c ++ rest))
      ∙ require_ext (not (is_top r.atomicity)) (NotAtomic d₁) _ _ (λ ok.
      require_ext (states_truly stated r.atomicity) (FalseStatement d₁) _ _ (λ truly.
      construct_agrees c next (d₁ + 4) (d + 4 * size (block stated body c)) at at₁ (at + size (block stated body c)) r.locks a r.atomicity fs
      report r.report rest w.1 (omega arith) (omega arith) (omega arith))
      ∙ sym (require_bind (states_truly stated r.atomicity) (FalseStatement d₁) _ _))
      ∙ sym (require_bind (not (is_top r.atomicity)) (NotAtomic d₁) _ _))
      ∙ sym (bind_assoc (judge p t (d + 4) s body) _ _)

  choice_agrees : (x : ℕ) (one two c : Code) → Agrees one → Agrees two → Agrees c → Agrees (choice x one two c)
  unfolding flat judge size scan applied WellFormed form_of effect_of form_effect
  choice_agrees x one two c first second next d at s a fs report rest w =
      let d₁ = d + 4 + 4 * size one in
      let d₂ = d₁ + 4 + 4 * size two in
      let at₁ = suc at + size one in
      let at₂ = suc at₁ + size two in
      let last = instruction.End ∷ (flat c ++ rest) in
      let more = instruction.Else (size two + 1) ∷ (flat two ++ last) in
      ap (λ (is : List Instruction). scan p t d at (carried s a fs report) (instruction.If x (size one + 1) ∷ is))
      (append_assoc (flat one) (instruction.Else (size two + 1) ∷ flat two ++ (instruction.End ∷ flat c)) rest
      ∙ ap (λ (is : List Instruction). flat one ++ (instruction.Else (size two + 1) ∷ is))
      (append_assoc (flat two) (instruction.End ∷ flat c) rest))
      ∙ scan_opener part.Then d at (instruction.If x (size one + 1)) (flat one ++ more) s a fs report refl
      ∙ part_agrees one first (d + 4) (suc at) s (opened_frame part.Then at s a ∷ fs) report more w.0
      ∙ bind_ext (judge p t (d + 4) s one) _ _ (λ r e.
      let n = holds_fine _ (judge p t (d + 4) s one) r (report_size_lem one (d + 4) s) e in
      let frame : Frame = record { part = part.Else r.atomicity; opener = at; locks = r.locks; before = a } in
      let report₁ = set (sets report (suc at) r.report) at₁ 0 in
      ap (λ (m : Answer Carried). m >>= λ y. scan p t (d₁ + 4) (suc at₁) y (flat two ++ last))
      (scan_else d₁ at₁ at r.locks s r.atomicity a fs (sets report (suc at) r.report))
      ∙ part_agrees two second (d₁ + 4) (suc at₁) s (frame ∷ fs) report₁ last w.1
      ∙ bind_ext (judge p t (d₁ + 4) s two) _ _ (λ q e'.
      let m = holds_fine _ (judge p t (d₁ + 4) s two) q (report_size_lem two (d₁ + 4) s) e' in
      let ok = same r.locks q.locks in
      let b = join r.atomicity q.atomicity in
      scan_closer ok (SetsDiffer d₂) d₂ at₂ q.locks q.atomicity b frame fs
      (sets report₁ (suc at₁) q.report) (λ y. scan p t (d₂ + 4) (suc at₂) y (flat c ++ rest)) refl
      ∙ require_ext ok (SetsDiffer d₂) _ _ (λ equal.
      ap (λ (u : LockSet). scan p t (d₂ + 4) (suc at₂)
      (carried u (composition a b) fs (set (set (sets report₁ (suc at₁) q.report) at₂ 0) at (report_byte b))) (flat c ++ rest))
      (sym (same_eq r.locks q.locks equal))
      ∙ ap (λ (bytes : List ℕ). scan p t (d₂ + 4) (suc at₂)
      (carried r.locks (composition a b) fs (set (set bytes at₂ 0) at (report_byte b))) (flat c ++ rest))
      (sets-parts report (suc at) at₁ r.report q.report (omega arith))
      ∙ construct_agrees c next (d₂ + 4) (d + 4 * size (choice x one two c)) at at₂ (at + size (choice x one two c)) r.locks a b fs
      report (r.report ++ 0 ∷ q.report) rest w.2 (omega arith) (omega arith)
      (simp length-append (omega arith)))
      ∙ sym (require_bind ok (SetsDiffer d₂) _ _))
      ∙ sym (bind_assoc (judge p t (d₁ + 4) s two) _ _))
      ∙ sym (bind_assoc (judge p t (d + 4) s one) _ _)

  -- the scan over the flat writing of code, and then over what follows, is the rules over the code, and then the scan over what follows
  pub scan_agrees : (c : Code) → Agrees c
  scan_agrees done = done_agrees
  scan_agrees (plain i c) = plain_agrees i c (scan_agrees c)
  scan_agrees (choice x a b c) = choice_agrees x a b c (scan_agrees a) (scan_agrees b) (scan_agrees c)
  scan_agrees (loop x a c) = loop_agrees x a c (scan_agrees a) (scan_agrees c)
  scan_agrees (block stated a c) = block_agrees stated a c (scan_agrees a) (scan_agrees c)
