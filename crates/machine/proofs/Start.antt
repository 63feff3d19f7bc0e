-- The start of a run: the initial values, as a loop finds them, and the state in arrays. Assumes nothing.
--     length-initial, initial_value   the start's variables, by index
--     initial_next                    one initial value more
--     start_in                        the start's state, in arrays
use Rattle.std.proofs.Common.{◌≡◌, ℕ, ◌+◌, ◌<◌, ◌≤◌, List, length, get_or, take, set, replicate, ap, ◌∙◌, add-one, arith, take-suc, take-suc-set}
use lib.ListN.{length-map, get_or-map}
use Rattle.program.specs.Field.{word_at}
use Rattle.program.specs.Layout.{program_of, variables_at}
use Rattle.program.specs.Limits.{records_start, lock_limit, thread_limit, record_offset}
use Rattle.program.specs.Variable.{Variable, variable_at}
use Rattle.program.specs.declared.layout.Layout.{Layout}
use Rattle.program.specs.declared.variable.Kind.TheVariants.{Open}
use Rattle.program.proofs.Contents.{length-variables, get_or-variables}
use Rattle.program.proofs.Lists.{take-replicate}
use Rattle.machine.specs.State.{start, fresh}
use Rattle.machine.specs.Internal.Kept.{state_in}

-- ---- the initial values

module _ (s : List ℕ) (l : Layout) where
  pub length-initial : length (start (program_of s l)).variables ≡ l.variables
  unfolding start program_of
  length-initial =
      length-map (variables_at l.locks l.threads s l.variables records_start) (λ (v : Variable). v.initial)
      ∙ length-variables l.locks l.threads s l.variables records_start

  pub initial_value : (i : ℕ) → i < l.variables → get_or (start (program_of s l)).variables i 0 ≡ word_at s (record_offset i + 2)
  unfolding start program_of variable_at
  initial_value i h =
      get_or-map (λ (v : Variable). v.initial) (variables_at l.locks l.threads s l.variables records_start) i (record { kind = Open; initial = 0 })
      ∙ ap (λ (v : Variable). v.initial) (get_or-variables l.locks l.threads s l.variables records_start i (record { kind = Open; initial = 0 }) h)

  -- a turn of the loop that fills an array with them
  pub initial_next : (vs : List ℕ) (i : ℕ) → i < l.variables → i < length vs
      → take i vs ≡ take i (start (program_of s l)).variables
      → take (i + 1) (set vs i (word_at s (record_offset i + 2))) ≡ take (i + 1) (start (program_of s l)).variables
  initial_next vs i h k e =
      rw (
        add-one,
        take-suc-set vs i (word_at s (record_offset i + 2)) k,
        take-suc (start (program_of s l)).variables i 0 (omega (arith, length-initial)),
        initial_value i h,
        e,
      )

-- ---- the start in arrays

pub start_in : (s : List ℕ) (l : Layout) (vs : List ℕ) → l.locks ≤ lock_limit → l.threads ≤ thread_limit → take l.variables vs ≡ (start (program_of s l)).variables
    → state_in l vs (replicate lock_limit 0) (replicate thread_limit fresh) ≡ start (program_of s l)
unfolding start program_of
start_in s l vs p q e =
    rw (e, take-replicate {A = ℕ} l.locks lock_limit 0 p, take-replicate l.threads thread_limit fresh q)
