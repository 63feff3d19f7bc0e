-- Demand 3 (`demand3`); the number of moves of all threads together (`same_total`). Assumes nothing.
use Rattle.std.proofs.Common.{ℕ, suc, ◌≡◌, refl, sym, ap, ◌∙◌, subst, List, [], ◌∷◌, arith, length, Ok}
use Rattle.judge.specs.Acceptance.{Accepted, accept, sound}
use Rattle.judge.specs.Judging.{judge_program}
use Rattle.machine.proofs.Sums.{length-counts}
use Rattle.machine.specs.Run.{counts_of, run, sum_of}
use Rattle.machine.specs.declared.counts.Counts.{Counts}
use Rattle.program.proofs.Sound.{sound_file}
use Rattle.program.specs.Layout.{Program, program_of, reading}
use Rattle.soundness.specs.Demand.{Serialized, Demand3}
use Rattle.soundness.specs.Internal.Instance.{ThreadsAnnotated}
use Rattle.soundness.specs.Internal.WellNested.{WellNested}
use Rattle.soundness.proofs.Accepted.{sound_nested, judged_annotated}
use Rattle.soundness.proofs.Serialize.{serialized}
use Rattle.program.proofs.Answer.{fine_inj, bind_inv}

-- a sound file's program is well nested
program_nested : (file : List ℕ) {p : Program} → sound file ≡ Ok p → WellNested p
unfolding sound
program_nested file {p} e =
    bind_inv (reading file) _ e λ l reads answer.
    subst WellNested (fine_inj (program_of file l) p answer) (sound_nested file l (sound_file file l reads))

-- every accepted program's threads are annotated
accepted_annotated : (file : List ℕ) (a : Accepted) → accept file ≡ Ok a → ThreadsAnnotated a.program
unfolding accept
accepted_annotated file a e =
    bind_inv (sound file) _ e λ p e₁ f₁.
    bind_inv (judge_program p) _ f₁ λ report e₂ f₂.
    let same : p ≡ a.program = ap (λ (a : Accepted). a.program) (fine_inj _ a f₂) in
    let nested = subst WellNested same (program_nested file e₁) in
    judged_annotated a.program nested (ap judge_program (sym same) ∙ e₂)

pub demand3 : (file : List ℕ) → Demand3 file
unfolding Demand3
demand3 file a e list threads nobody = serialized a.program (accepted_annotated file a e) list threads nobody

-- all threads together: "The number of moves of all threads together is then the same too"
together : (cs ds : List Counts) → length cs ≡ length ds → ((t : ℕ) → (counts_of cs t).moved ≡ (counts_of ds t).moved) → sum_of (λ (c : Counts). c.moved) cs ≡ sum_of (λ (c : Counts). c.moved) ds
unfolding sum_of counts_of
together [] [] e h = refl
together [] (d ∷ ds) e h = absurd (let z : ⊥ = omega (arith, e) in z)
together (c ∷ cs) [] e h = absurd (let z : ⊥ = omega (arith, e) in z)
together (c ∷ cs) (d ∷ ds) e h =
    let f = together cs ds (omega (arith, e)) (λ t. h (suc t)) in
    omega (arith, h 0, f)

pub same_total : {p : Program} {list : List ℕ} (r : Serialized p list)
    → sum_of (λ (c : Counts). c.moved) (run p r.serial).counts ≡ sum_of (λ (c : Counts). c.moved) (run p list).counts
unfolding run
same_total {p} {list} r = together _ _ (length-counts p _ r.serial ∙ sym (length-counts p _ list)) r.same_moved
