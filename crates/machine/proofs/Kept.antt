-- The state in arrays, through one entry. Assumes nothing.
--     kept_start             what holds of the arrays between two entries, at the start
--     length-variables_after, length-locks_after, length-registers_after
--                            an access and an instruction keep the lists' lengths
--     access_below_limits    the instruction at a thread's place names locks and variables that the arrays have
--     not_at_end             a thread that is not at its code's end, as the definitions say it
--     step_idle              a step at the code's end
--     stepped                any other step, from what the code finds; what it leaves is kept
use Rattle.std.proofs.Common.{◌≡◌, ℕ, suc, ◌+◌, ◌*◌, ◌<◌, ◌≤◌, List, length, get_or, take, set, replicate, sym, refl, ap, ◌∙◌, subst, arith, length-set, get_or-take, eq-eqb, ne_eqb}
use lib.ListN.{get_or-replicate}
use lib.Seq.{take-set-lt}
use Rattle.program.specs.Choice.{choose}
use Rattle.program.specs.View.{Access, none, reads, writes, takes, gives, access_of}
use Rattle.program.specs.Instruction.{decode_at, decoded_instruction}
use Rattle.program.specs.Layout.{CodeSection, program_of, code_of, instructions_at}
use Rattle.program.specs.Limits.{lock_limit, thread_limit, variable_limit, register_count}
use Rattle.program.specs.Internal.Sections.{SectionTable}
use Rattle.program.specs.Internal.Sound.{AccessBelow}
use Rattle.program.specs.declared.instruction.Instruction.{Instruction}
use Rattle.program.specs.declared.instruction.Instruction.TheVariants.{End}
use Rattle.program.specs.declared.layout.Layout.{Layout}
use Rattle.program.proofs.Contents.{length-instructions, get_or-instructions}
use Rattle.program.proofs.Decode.{instruction_access, access_wider}
use Rattle.program.proofs.Lists.{get_or-first, get_or-set_holds}
use Rattle.machine.specs.State.{State, fresh, thread_of}
use Rattle.machine.specs.Step.{waits, value_read, variables_after, locks_after, Result, keeps, puts, result_of, stored, place_after, registers_after, thread_after, instruction_of, move_by, outcome, after, step}
use Rattle.machine.specs.Internal.Kept.{state_in, nobody, move_thread, EightRegisters, Kept}
use Rattle.machine.specs.declared.thread.Outcome.{Outcome}
use Rattle.machine.specs.declared.thread.Outcome.TheVariants.{Moved, Waiting, Idle}
use Rattle.machine.specs.declared.thread.Thread.{Thread}
use Rattle.machine.proofs.Fields.{place_inside}

-- a thread that has not moved is at place 0
place_fresh : (n t : ℕ) → (get_or (replicate n fresh) t nobody).place ≡ 0
unfolding fresh
place_fresh ℕ.zero t = refl
place_fresh (suc n) ℕ.zero = refl
place_fresh (suc n) (suc t) = place_fresh n t

registers_fresh : (n t : ℕ) → t < n → length (get_or (replicate n fresh) t nobody).registers ≡ register_count
unfolding fresh
registers_fresh n t h = rw (get_or-replicate n t fresh nobody h)

-- so it is at the start
pub kept_start : (l : Layout) (counts vs ks : List ℕ) → length vs ≡ variable_limit → length ks ≡ lock_limit → Kept l counts vs ks (replicate thread_limit fresh)
unfolding EightRegisters
kept_start l counts vs ks e f = record { variables = e; locks = f; threads = refl; places = λ t h. omega (arith, place_fresh thread_limit t); registers = registers_fresh thread_limit }

-- ---- the first elements count

module _ (k v : ℕ) where
  waits_first : (a : Access) (ks : List ℕ) → AccessBelow k v a → waits a (take k ks) ≡ waits a ks
  unfolding waits
  waits_first none ks h = refl
  waits_first (reads x) ks h = refl
  waits_first (writes x a) ks h = refl
  waits_first (takes x) ks h = rw (get_or-take k ks x 0 h)
  waits_first (gives x) ks h = refl

  value_first : (a : Access) (vs : List ℕ) → AccessBelow k v a → value_read a (take v vs) ≡ value_read a vs
  unfolding value_read
  value_first none vs h = refl
  value_first (reads x) vs h = get_or-take v vs x 0 h
  value_first (writes x a) vs h = refl
  value_first (takes x) vs h = refl
  value_first (gives x) vs h = refl

  variables_first : (a : Access) (r vs : List ℕ) → AccessBelow k v a → variables_after a r (take v vs) ≡ take v (variables_after a r vs)
  unfolding variables_after
  variables_first none r vs h = refl
  variables_first (reads x) r vs h = refl
  variables_first (writes x a) r vs h = sym (take-set-lt v vs x (get_or r a 0) h)
  variables_first (takes x) r vs h = refl
  variables_first (gives x) r vs h = refl

  locks_first : (a : Access) (t : ℕ) (ks : List ℕ) → AccessBelow k v a → locks_after a t (take k ks) ≡ take k (locks_after a t ks)
  unfolding locks_after
  locks_first none t ks h = refl
  locks_first (reads x) t ks h = refl
  locks_first (writes x a) t ks h = refl
  locks_first (takes x) t ks h = sym (take-set-lt k ks x (t + 1) h)
  locks_first (gives x) t ks h = sym (take-set-lt k ks x 0 h)

-- ---- lengths

pub length-variables_after : (a : Access) (r vs : List ℕ) → length (variables_after a r vs) ≡ length vs
unfolding variables_after
length-variables_after none r vs = refl
length-variables_after (reads x) r vs = refl
length-variables_after (writes x a) r vs = length-set vs x (get_or r a 0)
length-variables_after (takes x) r vs = refl
length-variables_after (gives x) r vs = refl

pub length-locks_after : (a : Access) (t : ℕ) (ks : List ℕ) → length (locks_after a t ks) ≡ length ks
unfolding locks_after
length-locks_after none t ks = refl
length-locks_after (reads x) t ks = refl
length-locks_after (writes x a) t ks = refl
length-locks_after (takes x) t ks = length-set ks x (t + 1)
length-locks_after (gives x) t ks = length-set ks x 0

length-stored : (q : Result) (r : List ℕ) → length (stored q r) ≡ length r
unfolding stored
length-stored keeps r = refl
length-stored (puts a x) r = length-set r a x

pub length-registers_after : (i : Instruction) (x : ℕ) (r : List ℕ) → length (registers_after i x r) ≡ length r
unfolding registers_after
length-registers_after i x r = length-stored (result_of i x r) r

-- ---- one entry

module _ {s : List ℕ} {l : Layout} {starts counts vs ks : List ℕ} {ths : List Thread}
    (table : SectionTable s l starts counts) (kept : Kept l counts vs ks ths) (t : ℕ) (h : t < l.threads) where
  thread_first : thread_of (state_in l vs ks ths) t ≡ get_or ths t nobody
  unfolding thread_of
  thread_first = get_or-first l.threads ths t fresh nobody h (omega (arith, table.sound.threads, kept.threads))

  code_located : code_of (program_of s l) t ≡ instructions_at l.locks l.variables s (get_or counts t 0) (get_or starts t 0)
  unfolding code_of
  code_located = ap (λ (c : CodeSection). c.code) (table.located t h).section

  code_size : length (code_of (program_of s l) t) ≡ get_or counts t 0
  code_size = ap length code_located ∙ length-instructions l.locks l.variables s (get_or counts t 0) (get_or starts t 0)

  at_end_lem : (get_or ths t nobody).place ≡ get_or counts t 0 → (thread_of (state_in l vs ks ths) t).place ≡ length (code_of (program_of s l) t)
  at_end_lem e = rw (thread_first, code_size) e

  pub not_at_end : ((get_or ths t nobody).place ≡ get_or counts t 0 → ⊥) → (thread_of (state_in l vs ks ths) t).place ≡ length (code_of (program_of s l) t) → ⊥
  not_at_end n e = n (ap (λ (u : Thread). u.place) (sym thread_first) ∙ e ∙ code_size)

  -- the place is that of an instruction
  place_below : ((get_or ths t nobody).place ≡ get_or counts t 0 → ⊥) → (get_or ths t nobody).place < get_or counts t 0
  place_below n = omega (arith, kept.places t h)

  -- the instruction there
  instruction_decoded : ((get_or ths t nobody).place ≡ get_or counts t 0 → ⊥)
      → instruction_of (program_of s l) t (state_in l vs ks ths)
      ≡ decoded_instruction (decode_at l.locks l.variables s (get_or starts t 0 + 4 * (get_or ths t nobody).place))
  unfolding instruction_of
  instruction_decoded n =
      rw (thread_first, code_located)
      (get_or-instructions l.locks l.variables s (get_or counts t 0) (get_or starts t 0) (get_or ths t nobody).place (place_below n))

  abbrev here : State
  here = state_in l vs ks ths

  pub step_idle : (get_or ths t nobody).place ≡ get_or counts t 0 → (Idle ≡ outcome (program_of s l) t here) × (here ≡ step (program_of s l) t here)
  unfolding step outcome
  step_idle e = rw (eq-eqb _ _ (at_end_lem e)) (refl, refl)

  -- the thread is not at its code's end, and the instruction is the one read from the file
  module _ {i : Instruction}
      (n : (get_or ths t nobody).place ≡ get_or counts t 0 → ⊥)
      (read : i ≡ decoded_instruction (decode_at l.locks l.variables s (get_or starts t 0 + 4 * (get_or ths t nobody).place))) where
    instruction_is : instruction_of (program_of s l) t (state_in l vs ks ths) ≡ i
    instruction_is = instruction_decoded n ∙ sym read

    access_below_counts : AccessBelow l.locks l.variables (access_of i)
    access_below_counts =
        subst (λ (j : Instruction). AccessBelow l.locks l.variables (access_of j)) (sym read)
        (instruction_access l.locks l.variables s (get_or starts t 0 + 4 * (get_or ths t nobody).place))

    -- what the functions that take the instruction ask
    pub access_below_limits : AccessBelow lock_limit variable_limit (access_of i)
    access_below_limits = access_wider table.sound.locks table.sound.variables (access_of i) access_below_counts

    -- "TAKE of a lock that is not free: waiting", "otherwise the thread moves"
    outcome_is : outcome (program_of s l) t here ≡ choose (waits (access_of i) ks) Waiting Moved
    unfolding outcome
    outcome_is = rw (ne_eqb _ _ (not_at_end n), instruction_is, waits_first l.locks l.variables (access_of i) ks access_below_counts)

    move_is : move_by (instruction_of (program_of s l) t here) t here
        ≡ state_in l (variables_after (access_of i) (get_or ths t nobody).registers vs) (locks_after (access_of i) t ks) (move_thread i vs t ths)
    unfolding move_by
    move_is =
        rw (
          instruction_is,
          thread_first,
          value_first l.locks l.variables (access_of i) vs access_below_counts,
          variables_first l.locks l.variables (access_of i) (get_or ths t nobody).registers vs access_below_counts,
          locks_first l.locks l.variables (access_of i) t ks access_below_counts,
          take-set-lt l.threads ths t (thread_after i (value_read (access_of i) vs) (get_or ths t nobody)) h,
        )

    -- it goes to a place of its code, or to the code's end
    place_after_in_code : (r : List ℕ) → place_after i r (get_or ths t nobody).place ≤ get_or counts t 0
    unfolding instruction_of
    place_after_in_code r =
        let e : get_or (code_of (program_of s l) t) (get_or ths t nobody).place End ≡ i = rw thread_first at instruction_is in
        rw (e, code_size) at
        (place_inside (code_of (program_of s l) t) (rw code_located (table.located t h).nested) r (get_or ths t nobody).place (rw code_size (place_below n)))

    places_after : (x u : ℕ) → u < l.threads → (get_or (set ths t (thread_after i x (get_or ths t nobody))) u nobody).place ≤ get_or counts u 0
    unfolding thread_after
    places_after x u k =
        get_or-set_holds (λ v (th : Thread). th.place ≤ get_or counts v 0) ths t (thread_after i x (get_or ths t nobody)) nobody
        (place_after_in_code (get_or ths t nobody).registers) u (kept.places u k)

    registers_after_lem : (x : ℕ) → EightRegisters (set ths t (thread_after i x (get_or ths t nobody)))
    unfolding thread_after EightRegisters
    registers_after_lem x u k =
        get_or-set_holds (λ _ (th : Thread). length th.registers ≡ register_count) ths t (thread_after i x (get_or ths t nobody)) nobody
        (length-registers_after i x (get_or ths t nobody).registers ∙ kept.registers t (omega (arith, table.sound.threads))) u (kept.registers u k)

    kept_moved : Kept l counts (variables_after (access_of i) (get_or ths t nobody).registers vs) (locks_after (access_of i) t ks) (move_thread i vs t ths)
    kept_moved = let x = value_read (access_of i) vs in record {
      variables = length-variables_after (access_of i) (get_or ths t nobody).registers vs ∙ kept.variables;
      locks = length-locks_after (access_of i) t ks ∙ kept.locks;
      threads = length-set ths t (thread_after i x (get_or ths t nobody)) ∙ kept.threads;
      places = places_after x;
      registers = registers_after_lem x;
    }

    -- the step, and what it keeps
    abbrev Steps : Outcome → (vs' ks' : List ℕ) → List Thread → Type 0
    Steps o vs' ks' ths' = (o ≡ outcome (program_of s l) t here) × (state_in l vs' ks' ths' ≡ step (program_of s l) t here) × Kept l counts vs' ks' ths'

    steps : (o : Outcome) → outcome (program_of s l) t here ≡ o
        → Steps o (after o vs (variables_after (access_of i) (get_or ths t nobody).registers vs)) (after o ks (locks_after (access_of i) t ks))
        (after o ths (move_thread i vs t ths))
    unfolding step
    steps Moved e = (sym e, rw e (sym move_is), kept_moved)
    steps Waiting e = (sym e, rw e, kept)
    steps Idle e = (sym e, rw e, kept)

    pub stepped : {o : Outcome} {vs' ks' : List ℕ} {ths' : List Thread} → o ≡ choose (waits (access_of i) ks) Waiting Moved
        → vs' ≡ after o vs (variables_after (access_of i) (get_or ths t nobody).registers vs)
        → ks' ≡ after o ks (locks_after (access_of i) t ks)
        → ths' ≡ after o ths (move_thread i vs t ths)
        → Steps o vs' ks' ths'
    stepped {o} e p q r = rw (p, q, r) (steps o (outcome_is ∙ sym e))
