-- The shape of a state: its lists are as long as the program says, and each thread has eight registers. It is the start's, and a run keeps
-- it, so that the state's bytes are as many as the standard says ("That makes 4 bytes a variable, 1 a lock and 34 a thread").
-- Assumes nothing.
--     Shape             the shape
--     shape_start       the start has it
--     shape_step        one entry keeps it
--     shape_run         a run keeps it
--     length-state      how many bytes such a state has
--     length-end        how many bytes the end state has
--     length-end_file   the same by a file's counts
use Rattle.std.proofs.Common.{◌≡◌, ℕ, List, [], ◌∷◌, length, get_or, ap, ◌∙◌, length-append, length-set}
use lib.ListN.{length-map, length-replicate}
use Rattle.program.specs.Layout.{Program, program_of}
use Rattle.program.specs.Variable.{Variable}
use Rattle.program.specs.declared.instruction.Instruction.{Instruction}
use Rattle.program.specs.declared.layout.Layout.{Layout}
use Rattle.program.proofs.Contents.{length-variables}
use Rattle.program.proofs.Lists.{get_or-replicate_same, get_or-set_holds, length-flat_map}
use Rattle.machine.specs.State.{State, start, fresh, thread_of, thread_bytes, state_bytes}
use Rattle.program.specs.View.{access_of}
use Rattle.program.specs.Limits.{records_start, register_count, thread_size, size_of_state}
use Rattle.machine.specs.Step.{value_read, thread_after, instruction_of, move_by, outcome, after, step}
use Rattle.machine.specs.Run.{Run, run, run_from}
use Rattle.machine.specs.declared.thread.Outcome.{Outcome}
use Rattle.machine.specs.declared.thread.Outcome.TheVariants.{Moved, Waiting, Idle}
use Rattle.machine.specs.declared.thread.Thread.{Thread}
use Rattle.machine.proofs.Kept.{length-variables_after, length-locks_after, length-registers_after}
use Rattle.machine.proofs.StateBytes.{length-words, length-thread}
use Rattle.machine.proofs.Entry.{after_entry}

pub record Shape (p : Program) (s : State) : Type 0 where
  pub variables : length s.variables ≡ length p.variables
  pub locks : length s.locks ≡ p.locks
  pub threads : length s.threads ≡ p.threads
  pub registers : (t : ℕ) → length (thread_of s t).registers ≡ register_count

module _ (p : Program) where
  pub shape_start : Shape p (start p)
  unfolding start thread_of fresh
  shape_start = record {
    variables = length-map p.variables (λ (v : Variable). v.initial);
    locks = length-replicate p.locks 0;
    threads = length-replicate p.threads fresh;
    registers = λ t. ap (λ (th : Thread). length th.registers) (get_or-replicate_same p.threads t fresh);
  }

  shape_moved : (i : Instruction) (t : ℕ) (s : State) → Shape p s → Shape p (move_by i t s)
  unfolding move_by thread_after thread_of
  shape_moved i t s h = record {
    variables = length-variables_after (access_of i) (thread_of s t).registers s.variables ∙ h.variables;
    locks = length-locks_after (access_of i) t s.locks ∙ h.locks;
    threads = length-set s.threads t _ ∙ h.threads;
    registers = λ u. get_or-set_holds (λ _ (th : Thread). length th.registers ≡ register_count) s.threads t _ fresh
        (length-registers_after i (value_read (access_of i) s.variables) (thread_of s t).registers ∙ h.registers t) u (h.registers u);
  }

  shape_after : (o : Outcome) (s s' : State) → Shape p s → Shape p s' → Shape p (after o s s')
  shape_after Moved s s' h h' = h'
  shape_after Waiting s s' h h' = h
  shape_after Idle s s' h h' = h

  pub shape_step : (t : ℕ) (s : State) → Shape p s → Shape p (step p t s)
  unfolding step
  shape_step t s h = shape_after (outcome p t s) s (move_by (instruction_of p t s) t s) h (shape_moved (instruction_of p t s) t s h)

  shape_from : (r : Run) (ts : List ℕ) → Shape p r.state → Shape p (run_from p r ts).state
  unfolding run_from
  shape_from r [] h = h
  shape_from r (t ∷ ts) h = shape_from (after_entry p r t) ts (shape_step t r.state h)

  pub shape_run : (ts : List ℕ) → Shape p (run p ts).state
  unfolding run
  shape_run ts = shape_from _ ts shape_start

  pub length-state : (s : State) → Shape p s → length (state_bytes s) ≡ size_of_state (length p.variables) p.locks p.threads
  unfolding state_bytes thread_of
  length-state s h =
      rw (
        length-append,
        length-append,
        length-words,
        h.variables,
        h.locks,
        length-flat_map thread_bytes thread_size s.threads fresh (λ i l. length-thread (get_or s.threads i fresh) (h.registers i)),
        h.threads,
      )

  pub length-end : (ts : List ℕ) → length (state_bytes (run p ts).state) ≡ size_of_state (length p.variables) p.locks p.threads
  length-end ts = length-state (run p ts).state (shape_run ts)

-- the same of a file's program, by its counts
pub length-end_file : (s : List ℕ) (l : Layout) (ts : List ℕ)
    → length (state_bytes (run (program_of s l) ts).state) ≡ size_of_state l.variables l.locks l.threads
unfolding program_of
length-end_file s l ts =
    length-end (program_of s l) ts
    ∙ rw (length-variables l.locks l.threads s l.variables records_start)
