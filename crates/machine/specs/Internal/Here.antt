-- What a Machine stands for.
--     program     the program that it runs
--     here        the state that the run has come to
--     from_here   a run from there
use Rattle.std.specs.Prelude.{replicate}
use Rattle.program.specs.Layout.{Program, program_of}
use Rattle.program.specs.Limits.{thread_limit}
use Rattle.machine.specs.State.{State}
use Rattle.machine.specs.Run.{Run, uncounted}
use Rattle.machine.specs.Internal.Kept.{state_in}
use Rattle.machine.specs.declared.run.Machine.{Machine}

abbrev pub program : Machine → Program
program m = program_of m.file.bytes.now m.file.layout

abbrev pub here : Machine → State
here m = state_in m.file.layout m.running.variables m.running.locks m.running.threads

-- a run from there, nothing counted
abbrev pub from_here : Machine → Run
from_here m = record { counts = replicate thread_limit uncounted; state = here m }
