-- `write_parts` meets its contract: variables, locks and threads one after the other. Assumes nothing.
use Rattle.std.proofs.Common.{◌+◌, ◌*◌, ◌∙◌, length-take-le}
use Rattle.machine.specs.Internal.Kept.{state_in}
use Rattle.machine.proofs.StateBytes.{write_state, length-first_words}
use Rattle.machine.proofs.state_bytes.write_parts.Goals as goal

pub returns : goal.returns
returns c =
    let a = c.args in
    let within = c.requires.in_bounds in
    c.write_threads.ensures
    ∙ rw (c.write.ensures, c.write_words.ensures)
    (write_state a.out.now (state_in a.l a.variables.now a.locks.now a.threads.now) (4 * a.l.variables) (4 * a.l.variables + a.l.locks)
    (length-first_words a.variables.now a.l.variables within.0) (rw (length-take-le a.l.locks a.locks.now within.1)))
