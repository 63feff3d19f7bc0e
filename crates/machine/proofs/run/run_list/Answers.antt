-- `run_list` meets its contract: its parts, one after the other. Assumes nothing.
use Rattle.std.proofs.Common.{◌≡◌, replicate, sym, ap, ◌∙◌, subst, arith}
use lib.Seq.{sets}
use Rattle.program.specs.Layout.{program_of}
use Rattle.program.specs.Limits.{thread_limit}
use Rattle.program.specs.declared.sections.ProgramFile.{ProgramFile}
use Rattle.program.proofs.Lists.{sets-front}
use Rattle.machine.specs.State.{State, start, state_bytes}
use Rattle.machine.specs.Run.{Entries, Run, uncounted, run_from, run}
use Rattle.machine.specs.Internal.Here.{program, here}
use Rattle.machine.specs.Internal.Kept.{state_in}
use Rattle.machine.specs.declared.run.Machine.{Machine}
use Rattle.machine.proofs.Shape.{length-end_file}
use Rattle.machine.proofs.run.run_list.Goals.{After-entries-counts}
use Rattle.machine.proofs.run.run_list.Goals as goal

-- `let counts = machine.entries(list)`
pub entries-counts-requires : goal.entries-counts-requires
entries-counts-requires c =
    (subst (λ (f : ProgramFile). Entries f.layout.threads c.args.list.now) (sym c.start-machine.ensures.0) c.requires.0, c.requires.1)

module _ (c : After-entries-counts) where
  abbrev file : ProgramFile
  file = c.args.file.now

  abbrev first : Machine
  first = c.start-machine.result

  abbrev now : Machine
  now = c.entries-counts.new.self

  same : now.file ≡ file
  same = c.entries-counts.ensures.file ∙ c.start-machine.ensures.0

  -- what the entries left is the whole list's run
  ran : run (program_of file.bytes.now file.layout) c.args.list.now ≡ record { counts = c.entries-counts.result; state = here now }
  unfolding run
  ran = subst
      (λ (f : ProgramFile).
      run_from (program_of f.bytes.now f.layout) (record { counts = replicate thread_limit uncounted; state = start (program_of f.bytes.now f.layout) }) c.args.list.now
      ≡ record { counts = c.entries-counts.result; state = here now })
      c.start-machine.ensures.0
      (ap (λ (s : State). run_from (program first) (record { counts = replicate thread_limit uncounted; state = s }) c.args.list.now) (sym c.start-machine.ensures.1)
      ∙ c.entries-counts.ensures.whole_run)

  -- the state that is written
  written : state_in file.layout now.running.variables now.running.locks now.running.threads ≡ (run (program_of file.bytes.now file.layout) c.args.list.now).state
  written =
      ap (λ (f : ProgramFile). state_in f.layout now.running.variables now.running.locks now.running.threads) (sym same)
      ∙ ap (λ (r : Run). r.state) (sym ran)

pub write_state-requires : goal.write_state-requires
write_state-requires c =
    let o = ((goal.at.write_state-requires c).After-entries-counts) in
    let sound = c.args.file.now.located.sound in
    let kept = (now o).kept in
    record {
      room = c.requires.2;
      in_bounds = (omega (arith, kept.variables, sound.variables), omega (arith, kept.locks, sound.locks), sound.threads, kept.registers);
    }

pub returns : goal.returns
returns c =
    let o = ((goal.at.returns c).After-entries-counts) in
    let bytes = state_bytes (run (program_of c.args.file.now.bytes.now c.args.file.now.layout) c.args.list.now).state in
    record {
      counts = ap (λ (r : Run). r.counts) (sym (ran o));
      state =
          c.write_state.ensures
          ∙ ap (λ (s : State). sets c.args.out.now 0 (state_bytes s)) (written o)
          ∙ sets-front c.args.out.now bytes (omega (arith, length-end_file c.args.file.now.bytes.now c.args.file.now.layout c.args.list.now, c.requires.2));
    }
