-- `move_by` meets its contract, Move by Move. Assumes nothing.
use Rattle.std.proofs.Common.{◌≡◌, ℕ, false, List, get_or, refl, eq-eqb, ne_eqb, inl, inr}
use Rattle.program.specs.View.{Access, access_of}
use Rattle.program.specs.declared.instruction.Instruction.{Instruction}
use Rattle.machine.specs.Step.{waits, value_read, variables_after, locks_after}
use Rattle.machine.specs.Internal.Effect.{Does}
use Rattle.machine.specs.Internal.Kept.{nobody}
use Rattle.machine.specs.declared.moves.Move.{Move}
use Rattle.machine.specs.declared.running.Running.{Running}
use Rattle.machine.specs.declared.thread.Thread.{Thread}
use Rattle.machine.proofs.Effect.{Accesses, accesses, thread_moved_lem}
use Rattle.machine.proofs.running.Running.move_by.Goals.{After-move_of-m, Joined-m}
use Rattle.machine.proofs.running.Running.move_by.Goals as goal

module _ (c : After-move_of-m) where
  -- what the Move says of the instruction, in the arm that knows it
  does : {m : Move} → c.move_of-m.result ≡ m
      → let th = get_or c.args.self.now.threads c.args.t nobody in Does c.args.i th.registers th.place m
  does e = rw e at c.move_of-m.ensures

pub bounds-self-v : goal.bounds-self-v
unfolding Does
bounds-self-v c = (does ((goal.at.bounds-self-v c).After-move_of-m) c.in-Reads.is).2

pub bounds-self-v-in-Writes : goal.bounds-self-v-in-Writes
unfolding Does
bounds-self-v-in-Writes c = (does ((goal.at.bounds-self-v-in-Writes c).After-move_of-m) c.in-Writes.is).3

-- `if self.locks[n] != 0`
pub bounds-self-n : goal.bounds-self-n
unfolding Does
bounds-self-n c = (does ((goal.at.bounds-self-n c).After-move_of-m) c.in-Takes.is).1

-- `return Outcome::Waiting`
pub returns-then-self-n-ne0-clause-value : goal.returns-then-self-n-ne0-clause-value
unfolding Does waits
returns-then-self-n-ne0-clause-value c =
    rw ((does ((goal.at.returns-then-self-n-ne0-clause-value c).After-move_of-m) c.in-Takes.is).0.access, ne_eqb _ 0 c.if-self-n-ne0.true)

pub bounds-self-n-in-Takes : goal.bounds-self-n-in-Takes
unfolding Does
bounds-self-n-in-Takes c = (does ((goal.at.bounds-self-n-in-Takes c).After-move_of-m) c.in-Takes.is).1

pub bounds-self-k : goal.bounds-self-k
unfolding Does
bounds-self-k c = (does ((goal.at.bounds-self-k c).After-move_of-m) c.in-Gives.is).1

-- where the Moves meet
module _ (c : Joined-m) where
  abbrev i : Instruction
  i = c.args.i

  abbrev t : ℕ
  t = c.args.t

  abbrev vs : List ℕ
  vs = c.args.self.now.variables

  abbrev ks : List ℕ
  ks = c.args.self.now.locks

  abbrev th : Thread
  th = get_or c.args.self.now.threads t nobody

  -- what the Move says of the instruction, in the branch that knows it
  says : {m : Move} → c.move_of-m.result ≡ m → Does i th.registers th.place m
  says e = rw e at c.move_of-m.ensures

  -- an instruction that does not wait, by its access
  free : {a : Access} → access_of i ≡ a → waits a ks ≡ false
      → Accesses i t th.registers vs ks (variables_after a th.registers vs) (locks_after a t ks) (value_read a vs)
  free = accesses i t th.registers vs ks

  -- what the instruction does, what it has done to what the threads share, and that no thread has moved yet
  abbrev Shared : Move → Running → (x : ℕ) → Type 0
  Shared m now x = Does i th.registers th.place m × Accesses i t th.registers vs ks now.variables now.locks x × (now.threads ≡ c.args.self.now.threads)

  -- ... from the values of the branch
  joined : {m m' : Move} {now now' : Running} {x x' : ℕ} → now' ≡ now → m' ≡ m → x' ≡ x → Shared m now x → Shared m' now' x'
  joined p e f h = rw (p, e, f) h

  shared : Shared c.match-m.m c.match-m.self c.match-m.value
  unfolding Does waits value_read variables_after locks_after
  shared = let d = c.move_of-m.ensures in elim c.match-m.branch [
    | goal.in-Reads w ↦ let e = says w.in-Reads.is in joined w.self-is w.m-is w.value-is (e, free e.0.access refl, refl)
    | goal.in-Writes w ↦ let e = says w.in-Writes.is in joined w.self-is w.m-is w.value-is (e, rw (← e.2) (free e.1.access refl), refl)
    | goal.in-Takes+else-self-n-ne0 w ↦
        let e = says w.in-Takes.is in
        joined w.self-is w.m-is w.value-is (e, free e.0.access (rw (eq-eqb _ 0 w.if-self-n-ne0.false)), refl)
    | goal.in-Gives w ↦ let e = says w.in-Gives.is in joined w.self-is w.m-is w.value-is (e, free e.0.access refl, refl)
    | goal.in-Sets w ↦ elim w.in-Sets.is [
      | inl h ↦ joined w.self-is w.m-is w.value-is (d, free (says h.2).0.access refl, refl)
      | inr g ↦ elim g [
        | inl h ↦ joined w.self-is w.m-is w.value-is (d, free (says h.1).access refl, refl)
        | inr h ↦ joined w.self-is w.m-is w.value-is (d, free (says h).access refl, refl)
      ]
    ]
  ]

-- `move_thread(&mut self.threads[at], m, value)`
pub move_thread-requires : goal.move_thread-requires
move_thread-requires c =
    let b = ((goal.at.move_thread-requires c).Joined-m) in
    let s = shared b in
    rw s.2 ((i b, s.0), c.requires.2)

pub returns : goal.returns
returns c =
    let b = ((goal.at.returns c).Joined-m) in
    let s = shared b in
    let a = s.1 in
    record {
      value = a.0;
      variables_after = a.1;
      locks_after = a.2;
      threads_after = thread_moved_lem (i b) _ _ (t b) (vs b) _ _ _ s.2 s.0 a.3 c.move_thread.ensures;
    }
