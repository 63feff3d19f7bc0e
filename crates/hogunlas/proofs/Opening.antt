-- From judge_file's answer to what is known of the file, and the sizes of its program. Assumes nothing.
--     program_of_lem                                an accepted file's program is the one that reading finds
--     opened_by                                     a file that judge_file accepted is accepted with the report it left
--     count_threads, count_variables, count_locks   how many the program has
--     state_size_lem                                the bytes that the end state takes
--     counts_small                                  a sound file's counts are within the limits
use Rattle.std.proofs.Common.{ℕ, ◌≤◌, ◌≡◌, refl, sym, ◌∙◌, ap, List, arith, length, Ok}
use Rattle.judge.specs.Acceptance.{Accepted, accept, sound}
use Rattle.judge.specs.Judging.{judge_program}
use Rattle.judge.specs.Internal.Judgement.{AcceptedAs}
use Rattle.program.proofs.Answer.{fine_inj, bind_inv}
use Rattle.program.proofs.Contents.{length-variables}
use Rattle.program.proofs.Sound.{instructions_few}
use Rattle.program.specs.Layout.{Program, program_of, reading}
use Rattle.program.specs.Limits.{records_start, thread_limit, variable_limit, size_of_state}
use Rattle.program.specs.Internal.Bounds.{program_limit}
use Rattle.program.specs.Internal.Sound.{SoundFile}
use Rattle.program.specs.declared.layout.Layout.{Layout}
use Rattle.program.specs.declared.sections.ProgramFile.{ProgramFile}
use Rattle.hogunlas.specs.Calls.{state_size}
use Rattle.hogunlas.specs.Internal.Opened.{Opened}

-- an accepted file's program is the one that reading finds
pub program_of_lem : (s : List ℕ) (l : Layout) (a : Accepted) → reading s ≡ Ok l → accept s ≡ Ok a → a.program ≡ program_of s l
unfolding accept sound
program_of_lem s l a reads accepts =
    bind_inv (judge_program (program_of s l)) _ (rw reads at accepts) λ report _ answer.
    sym (ap (λ (a : Accepted). a.program) (fine_inj _ a answer))

pub opened_by : {s before after : List ℕ} {file : ProgramFile} {n : ℕ} (found : AcceptedAs s before after file n) → Opened s file.layout found.accepted.report
opened_by {s} {before} {after} {file} found =
    let a = found.accepted in
    let l = file.layout in
    let same : a ≡ record { program = program_of s l; report = a.report } =
    ap (λ (p : Program). record { program = p; report = a.report }) (program_of_lem s l a found.reads found.accepts) in
    record { reads = found.reads; accepts = found.accepts ∙ ap Ok same }

module _ (s : List ℕ) (l : Layout) where
  -- how many threads and variables the program has
  pub count_threads : (program_of s l).threads ≡ l.threads
  unfolding program_of
  count_threads = refl

  pub count_variables : length (program_of s l).variables ≡ l.variables
  unfolding program_of
  count_variables = length-variables l.locks l.threads s l.variables records_start

  pub count_locks : (program_of s l).locks ≡ l.locks
  unfolding program_of
  count_locks = refl

  -- the bytes that the end state takes
  pub state_size_lem : state_size (program_of s l) ≡ size_of_state l.variables l.locks l.threads
  unfolding state_size
  state_size_lem = rw (count_threads, count_variables, count_locks)

-- the counts of a sound file are small
pub counts_small : (s : List ℕ) (l : Layout) → SoundFile s l → (l.threads ≤ thread_limit) × (l.variables ≤ variable_limit) × (l.instructions ≤ program_limit)
counts_small s l file = omega (arith, file, instructions_few s l file)
