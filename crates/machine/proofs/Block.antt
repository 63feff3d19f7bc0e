-- Where a thread stands inside a block (the standard, "Mistakes that look reasonable": "counting a thread at its ATOMIC as inside;
-- treating the END of a block as already outside"), computed by the definitions. Assumes nothing.
--     inside_places   whether it is inside, at each place of a code with a block in a block and a loop
use Rattle.std.proofs.Common.{◌≡◌, ℕ, true, false, [], ◌∷◌, map, refl}
use Rattle.program.specs.View.{form_of}
use Rattle.program.specs.Layout.{Program, code_of}
use Rattle.program.specs.declared.instruction.Instruction.TheVariants.{While, Again, Atomic, End}
use Rattle.machine.specs.Block.{covers, covered_from, inside}
use Rattle.machine.specs.State.{State, thread_of}

-- one thread's code: a block at places 0 to 3 with another in it, at 1 and 2; then a loop, which is none
abbrev blocks : Program
blocks = record {
  locks = 0;
  variables = [];
  threads = 1;
  codes = record { start = 0; code = Atomic 0 3 ∷ Atomic 0 1 ∷ End ∷ End ∷ While 0 1 ∷ Again 1 ∷ [] } ∷ [];
}

-- the thread at a place
abbrev standing : ℕ → State
standing place = record { variables = []; locks = []; threads = record { place = place; registers = [] } ∷ [] }

-- outside at the outer ATOMIC, inside from the next place to its END, outside past it
pub inside_places : map (λ (place : ℕ). inside blocks (standing place) 0) (0 ∷ 1 ∷ 2 ∷ 3 ∷ 4 ∷ 5 ∷ 6 ∷ [])
    ≡ false ∷ true ∷ true ∷ true ∷ false ∷ false ∷ false ∷ []
unfolding covers covered_from inside code_of thread_of form_of
inside_places = refl
