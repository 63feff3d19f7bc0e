-- `run` meets its contract: the file's refusals, or what `run_accepted` answers; demand 3 is a theorem of every file. Assumes nothing.
use Rattle.std.proofs.Common.{◌≡◌, refl, length, Err, rules}
use Rattle.soundness.proofs.Demand.{demand3}
use Rattle.hogunlas.specs.Calls.{run_buffer}
use Rattle.hogunlas.proofs.Opening.{opened_by}
use Rattle.hogunlas.proofs.Running.{run_refused}
use Rattle.hogunlas.proofs.run.Goals as goal

-- the file is refused
pub returns-in_err-program : goal.returns-in_err-program
unfolding run_buffer
returns-in_err-program c =
    let e = run_refused c.args.file.now c.args.list.now (length c.args.out.now) _ c.in_err-program.ensures in
    let handed : c.from_residual.result ≡ Err c.in_err-program.field-0.0 = search rules in
    record { result = rw (handed, e) refl; buffer = rw e refl; demand = demand3 c.args.file.now }

pub run_accepted-requires : goal.run_accepted-requires
run_accepted-requires c =
    let found = c.in_ok-program.ensures in
    rw found.of_file (record { report = found.accepted.report; opened = opened_by found })

-- `run_accepted(&program, list, out)`
pub returns : goal.returns
returns c =
    let found = c.in_ok-program.ensures in
    let ran = c.run_accepted.ensures in
    record { result = rw found.of_file at ran.result; buffer = rw found.of_file at ran.buffer; demand = demand3 c.args.file.now }
