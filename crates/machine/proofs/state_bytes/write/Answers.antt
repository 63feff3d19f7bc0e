-- `write` meets its contract. Assumes nothing.
use Rattle.std.proofs.Common.{◌≡◌, ◌+◌, ◌-◌, length, append_assoc, arith, drop-drop}
use Rattle.std.proofs.lemmas.List.Edits.{sets-eq}
use Rattle.machine.proofs.state_bytes.write.Goals as goal

pub returns : goal.returns
returns c =
    let a = c.args in
    let long : a.at + length a.bytes.now - a.at ≡ length a.bytes.now = omega arith in
    rw (long, c.copy_from_slice.ensures.after, sets-eq a.bytes.now a.out.now a.at c.requires, drop-drop, append_assoc)
