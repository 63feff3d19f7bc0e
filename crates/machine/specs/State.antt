-- The state (the standard, "The step machine": "the variables, each lock (0 free, or thread number plus 1), and for each thread its
-- place and eight registers"), its start, and its bytes.
use Rattle.std.specs.Prelude.{ℕ, ◌/◌, ◌%◌, List, [], ◌∷◌, ◌++◌, map, replicate, slice_index_or}
use mathlib.Core.List.{flat_map}
use Rattle.program.specs.Layout.{Program}
use Rattle.program.specs.Limits.{register_count}
use Rattle.program.specs.Variable.{Variable}
use Rattle.machine.specs.declared.thread.Thread.{Thread}

pub record State : Type 0 where
  pub variables : List ℕ
  pub locks : List ℕ
  pub threads : List Thread

-- "places and registers 0"
unfoldable pub fresh : Thread
fresh = record { place = 0; registers = replicate register_count 0 }

-- "Start: initial values, locks free, places and registers 0"
unfoldable pub start : Program → State
start p = record {
  variables = map (λ (v : Variable). v.initial) p.variables;
  locks = replicate p.locks 0;
  threads = replicate p.threads fresh;
}

-- a thread's part of the state
unfoldable pub thread_of : State → ℕ → Thread
thread_of s t = slice_index_or s.threads t fresh

-- "numbers big-endian": of two and of four bytes
unfoldable pub pair_bytes : ℕ → List ℕ
pair_bytes n = n / 256 % 256 ∷ n % 256 ∷ []

unfoldable pub word_bytes : ℕ → List ℕ
word_bytes n = n / 16777216 % 256 ∷ n / 65536 % 256 ∷ n / 256 % 256 ∷ n % 256 ∷ []

unfoldable pub thread_bytes : Thread → List ℕ
thread_bytes th = pair_bytes th.place ++ flat_map word_bytes th.registers

-- "variables (4 bytes each), locks (1 each), then for each thread its place (2) and registers (4 each)"
unfoldable pub state_bytes : State → List ℕ
state_bytes s = flat_map word_bytes s.variables ++ s.locks ++ flat_map thread_bytes s.threads
