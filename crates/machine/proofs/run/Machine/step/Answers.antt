-- `step` meets its contract: the code's end, or the instruction at the thread's place. Assumes nothing.
use Rattle.std.proofs.Common.{◌≡◌, ℕ, ◌+◌, ◌*◌, ◌<◌, true, get_or, sym, refl, subst, arith}
use Rattle.program.specs.Instruction.{Decoded, is_valid, decode_at, decoded_instruction}
use Rattle.program.specs.Limits.{instruction_size}
use Rattle.program.specs.Internal.Seen.{RegistersGood}
use Rattle.machine.specs.Internal.Kept.{nobody}
use Rattle.machine.specs.declared.run.Machine.{Machine}
use Rattle.machine.proofs.Kept.{step_idle, access_below_limits, stepped}
use Rattle.machine.proofs.run.Machine.step.Goals.{After-instruction_at-i}
use Rattle.machine.proofs.run.Machine.step.Goals as goal

module _ (c : After-instruction_at-i) where
  abbrev now : Machine
  now = c.args.self.now

  abbrev place : ℕ
  place = (get_or now.running.threads c.args.t nobody).place

  inside : place < get_or now.file.counts c.args.t 0
  inside = omega (arith, now.kept.places c.args.t c.requires, c.if-place-count.false)

  -- the instruction that stands at an offset
  abbrev decoded : (at : ℕ) → Decoded
  decoded at = decode_at now.file.layout.locks now.file.layout.variables now.file.bytes.now at

  abbrev Read : (at : ℕ) → Type 0
  Read at = (c.instruction_at-i.result ≡ decoded_instruction (decoded at)) × RegistersGood c.instruction_at-i.result

  -- a sound file's instruction is valid, so it is the one read
  read : Read (get_or now.file.starts c.args.t 0 + instruction_size * place)
  read =
      let valid = (now.file.located.located c.args.t c.requires).valid place inside in
      subst Read c.offset_of.ensures
      (c.instruction_at-i.ensures now.file.layout.locks now.file.layout.variables
      (subst (λ (at : ℕ). is_valid (decoded at) ≡ true) (sym c.offset_of.ensures) valid))

-- `return Outcome::Idle`
pub returns-then-place-count-clause-value : goal.returns-then-place-count-clause-value
returns-then-place-count-clause-value c =
    let now = c.args.self.now in (step_idle now.file.located now.kept c.args.t c.requires (rw c.count.ensures at c.if-place-count.true)).0

pub returns-then-place-count-clause-state_after : goal.returns-then-place-count-clause-state_after
returns-then-place-count-clause-state_after c =
    let now = c.args.self.now in (step_idle now.file.located now.kept c.args.t c.requires (rw c.count.ensures at c.if-place-count.true)).1

-- `self.running.move_by(i, t)`
pub move_by-requires : goal.move_by-requires
move_by-requires c =
    let o = ((goal.at.move_by-requires c).After-instruction_at-i) in
    let located = (now o).file.located in (
      ((read o).1, access_below_limits located (now o).kept c.args.t c.requires (rw c.count.ensures at c.if-place-count.false) (read o).0),
      omega (arith, c.requires, located.sound.threads),
      omega (arith, inside o, (located.located c.args.t c.requires).short),
    )

pub invariant_of-self : goal.invariant_of-self
invariant_of-self c =
    let o = ((goal.at.invariant_of-self c).After-instruction_at-i) in
    let e = c.move_by.ensures in
    record {
      kept = (stepped (now o).file.located (now o).kept c.args.t c.requires (rw c.count.ensures at c.if-place-count.false) (read o).0 e.value e.variables_after e.locks_after e.threads_after).2;
    }

pub returns : goal.returns
returns c =
    let o = ((goal.at.returns c).After-instruction_at-i) in
    let e = c.move_by.ensures in
    let x = stepped (now o).file.located (now o).kept c.args.t c.requires (rw c.count.ensures at c.if-place-count.false) (read o).0 e.value e.variables_after e.locks_after e.threads_after in
    record { file = refl; value = x.0; state_after = x.1 }
