-- Demand 3 is not empty: its premises hold of two files, each with a list that interleaves two blocks. Computed. Assumes nothing.
--     adders_sum                 after the list both threads have added 1
--     adders_interrupted, frame_interrupted the premises hold, and the list is not itself the one that is promised
--     promised, promised_other   what demand 3 then promises, and that it is another list
--     frame_report_lem           thread 0's READ of the variable that it alone writes is B, and so its block, which begins with
--                                it and takes a lock later, is A
--     frame_refused_before       by the rule of the standard's version 1.0 the same file is refused
--     frame_seen                 after the list thread 1 has seen the frame before
--     second_writer_refused      with a second writer thread 0's block, the same code, is refused with 13
use Rattle.std.proofs.Common.{ℕ, zero, suc, ◌<◌, arith, ◌≡◌, refl, subst, ◌≢◌, Bool, true, false, ◌&&◌, List, [], ◌∷◌, length, get_or, T, ltb, ltb→lt, lit<, Ok, Err}
use Rattle.std.proofs.Math.Facts.{and_yes}
use Rattle.program.proofs.Differ.{differ}
use Rattle.program.specs.declared.refusal.Refusal.TheVariants.{NotAtomic}
use Rattle.judge.specs.Acceptance.{accept}
use Rattle.judge.proofs.Definitions.{judging_definitions}
use Rattle.judge.specs.Internal.Earlier.{writes_below, with_writer, judge_before}
use Rattle.machine.specs.Run.{run}
use Rattle.machine.specs.State.{thread_of}
use Rattle.machine.specs.Block.{NobodyInside, Uninterrupted}
use Rattle.machine.proofs.Definitions.{running_definitions}
use Rattle.soundness.proofs.Demand.{demand3}
use Rattle.soundness.specs.Demand.{ThreadsOf, Serialized, Demand3}
use Rattle.soundness.specs.Internal.Example.{adder, adders, interleaving, counter, reader, frame, second_writer, frame_list, frame_report, Interrupted, accepted_of}

-- all definitions open
unfoldable definitions : Unit {0}
unfolding judging_definitions running_definitions writes_below with_writer judge_before adder adders interleaving counter reader frame second_writer frame_list accepted_of
definitions = tt

-- each entry is below n
abbrev pub all_below : ℕ → List ℕ → Bool
all_below n [] = true
all_below n (t ∷ ts) = ltb t n && all_below n ts

pub all_below_lem : (n : ℕ) (ts : List ℕ) → T (all_below n ts) → (i : ℕ) → i < length ts → get_or ts i 0 < n
all_below_lem n [] h i l = absurd (omega arith)
all_below_lem n (t ∷ ts) h zero l = ltb→lt t n (and_yes (ltb t n) (all_below n ts) h).0
all_below_lem n (t ∷ ts) h (suc i) l = all_below_lem n ts (and_yes (ltb t n) (all_below n ts) h).1 i (omega arith)

-- both threads have added 1
pub adders_sum : (run (accepted_of (accept adders)).program interleaving).state.variables ≡ 7 ∷ []
unfolding definitions
adders_sum = refl

adders_accepted : accept adders ≡ Ok (accepted_of (accept adders))
unfolding definitions
adders_accepted = refl

adders_threads : ThreadsOf (accepted_of (accept adders)).program interleaving
unfolding definitions
adders_threads = all_below_lem 2 interleaving tt

adders_nobody : NobodyInside (accepted_of (accept adders)).program (run (accepted_of (accept adders)).program interleaving).state
unfolding definitions
adders_nobody zero h = refl
adders_nobody (suc zero) h = refl
adders_nobody (suc (suc u)) h = absurd (omega arith)

-- thread 1 moves while thread 0 stands inside its block
adders_uninterrupted : Uninterrupted (accepted_of (accept adders)).program interleaving → ⊥
unfolding definitions
adders_uninterrupted h = let e : true ≡ false = h.2.1 0 (lit< tt) (λ e. omega arith) in differ cc

pub adders_interrupted : Interrupted adders interleaving
adders_interrupted = record {
  answer = accepted_of (accept adders);
  accepted = adders_accepted;
  threads = adders_threads;
  nobody = adders_nobody;
  interrupted = adders_uninterrupted;
}

-- ---- the variable that one thread writes

pub frame_report_lem : (accepted_of (accept frame)).report ≡ frame_report
unfolding definitions
frame_report_lem = refl

frame_accepted : accept frame ≡ Ok (accepted_of (accept frame))
unfolding definitions
frame_accepted = refl

frame_threads : ThreadsOf (accepted_of (accept frame)).program frame_list
unfolding definitions
frame_threads = all_below_lem 2 frame_list tt

frame_nobody : NobodyInside (accepted_of (accept frame)).program (run (accepted_of (accept frame)).program frame_list).state
unfolding definitions
frame_nobody zero h = refl
frame_nobody (suc zero) h = refl
frame_nobody (suc (suc u)) h = absurd (omega arith)

-- thread 1 moves while thread 0 stands inside its block
frame_uninterrupted : Uninterrupted (accepted_of (accept frame)).program frame_list → ⊥
unfolding definitions
frame_uninterrupted h = let e : true ≡ false = h.2.2.1 0 (lit< tt) (λ e. omega arith) in differ cc

pub frame_interrupted : Interrupted frame frame_list
frame_interrupted = record {
  answer = accepted_of (accept frame);
  accepted = frame_accepted;
  threads = frame_threads;
  nobody = frame_nobody;
  interrupted = frame_uninterrupted;
}

-- v0 and v1 have the new frame's number; thread 1 has the old one's in r0 and r1
pub frame_seen : ((run (accepted_of (accept frame)).program frame_list).state.variables ≡ 8 ∷ 8 ∷ [])
    × ((thread_of (run (accepted_of (accept frame)).program frame_list).state 1).registers ≡ 7 ∷ 7 ∷ 0 ∷ 0 ∷ 0 ∷ 0 ∷ 0 ∷ 0 ∷ [])
unfolding definitions
frame_seen = (refl, refl)

-- "in 1.0 it was A": the earlier rule refuses the file with 13, at the END of thread 0's block
pub frame_refused_before : judge_before (accepted_of (accept frame)).program ≡ Err (NotAtomic 51)
unfolding definitions
frame_refused_before = refl

-- "the file would be refused with 13", at the same place
pub second_writer_refused : accept second_writer ≡ Err (NotAtomic 51)
unfolding definitions
second_writer_refused = refl

-- ---- what is promised

pub promised : (file list : List ℕ) (x : Interrupted file list) → Serialized x.answer.program list
unfolding Demand3
promised file list x = demand3 file x.answer x.accepted list x.threads x.nobody

pub promised_other : (file list : List ℕ) (x : Interrupted file list) → (promised file list x).serial ≢ list
promised_other file list x e = x.interrupted (subst (Uninterrupted x.answer.program) e (promised file list x).uninterrupted)
