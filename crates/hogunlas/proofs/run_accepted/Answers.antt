-- `run_accepted` meets its contract: each `return` is a case of the definition, in the order of the caller's refusals. Assumes nothing.
use Rattle.std.proofs.Common.{refl, length, rules}
use Rattle.hogunlas.specs.Calls.{run_buffer, laid_over}
use Rattle.hogunlas.proofs.Running.{every_entry, run_long, run_thread, run_short, run_done}
use Rattle.hogunlas.proofs.run_accepted.Goals as goal

-- `return Err(Refusal::LongList(LIST_LIMIT))`
pub returns-then-list-gt-LIST_LIMIT : goal.returns-then-list-gt-LIST_LIMIT
unfolding run_buffer
returns-then-list-gt-LIST_LIMIT c =
    let e = run_long c.args.program.now.bytes.now c.args.list.now (length c.args.out.now) _ _ c.requires.opened c.if-list-gt-LIST_LIMIT.true in
    record { result = rw e refl; buffer = rw e refl }

-- `return Err(Refusal::ThreadNumber(i))`
pub returns-in-Some : goal.returns-in-Some
unfolding run_buffer
returns-in-Some c =
    let e = run_thread c.args.program.now.bytes.now c.args.list.now (length c.args.out.now) _ _ c.requires.opened c.if-list-gt-LIST_LIMIT.false _ (search rules) in
    record { result = rw e refl; buffer = rw e refl }

-- `return Err(Refusal::ShortBuffer(size))`
pub returns-then-out-size : goal.returns-then-out-size
unfolding run_buffer
returns-then-out-size c =
    let e = run_short c.args.program.now.bytes.now c.args.list.now (length c.args.out.now) _ _ c.requires.opened c.if-list-gt-LIST_LIMIT.false (search rules) c.if-out-size.true in
    record { result = rw e refl; buffer = rw e refl }

pub run_list-requires : goal.run_list-requires
run_list-requires c =
    (every_entry c.args.program.now.layout.threads c.args.list.now (search rules), c.if-list-gt-LIST_LIMIT.false, c.if-out-size.false)

-- `Ok(run_list(program, list, out))`
pub returns : goal.returns
unfolding run_buffer laid_over
returns c =
    let e = run_done c.args.program.now.bytes.now c.args.list.now (length c.args.out.now) _ _ c.requires.opened c.if-list-gt-LIST_LIMIT.false (search rules) c.if-out-size.false in
    record { result = rw (e, c.run_list.ensures.counts) refl; buffer = rw e c.run_list.ensures.state }
