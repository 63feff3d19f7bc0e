-- `move_thread` meets its contract, Move by Move. Assumes nothing.
use Rattle.std.proofs.Common.{inl, inr}
use Rattle.machine.specs.Step.{stored}
use Rattle.machine.specs.Internal.Effect.{Does}
use Rattle.machine.proofs.Effect.{effect_thread}
use Rattle.machine.proofs.thread.move_thread.Goals as goal

pub returns : goal.returns
unfolding Does stored
returns c i d = elim c.match-m.branch [
  | goal.in-Sets w ↦ let e = rw w.in-Sets.is at d in rw (w.th-is, w.next-is, effect_thread e.0 _)
  | goal.in-Reads w ↦ let e = rw w.in-Reads.is at d in rw (w.th-is, w.next-is, effect_thread e.0 _)
  | goal.in-Goes w ↦ let e = rw w.in-Goes.is at d in rw (w.th-is, w.next-is, effect_thread e _)
  | goal.in-Writes w ↦ elim w.in-Writes.is [
    | inl h ↦ let e = rw h.2 at d in rw (w.th-is, w.next-is, effect_thread e.1 _)
    | inr g ↦ elim g [
      | inl h ↦ let e = rw h.1 at d in rw (w.th-is, w.next-is, effect_thread e.0 _)
      | inr g' ↦ elim g' [
        | inl h ↦ let e = rw h.1 at d in rw (w.th-is, w.next-is, effect_thread e.0 _)
        | inr h ↦ let e = rw h at d in rw (w.th-is, w.next-is, effect_thread e _)
      ]
    ]
  ]
]
