-- The state's bytes, as loops write them. Assumes nothing.
--     pair_bytes-part        two bytes of a number are those of it modulo 65536
--     write_each             a turn of the loop that writes element by element
--     length-words, length-first_words
--                            the bytes of numbers, and of the first n of them
--     length-thread, length-first_threads
--                            ... of a thread with eight registers, and of the first n of them
--     registers_first        the first n of eight threads have eight registers each
--     write_state            variables, locks and threads one after the other are the state
use Rattle.std.proofs.Common.{◌≡◌, ℕ, suc, ◌+◌, ◌*◌, ◌/◌, ◌%◌, ◌<◌, ◌≤◌, List, ◌++◌, length, get_or, take, refl, ap, ◌∙◌, zero-add, arith, length-append, length-take-le, get_or-take, length-take}
use mathlib.Core.List.{flat_map}
use lib.Seq.{sets}
use Rattle.program.specs.Limits.{register_count, thread_limit, thread_size}
use Rattle.program.proofs.Lists.{sets-append, flat_map-next, length-flat_map}
use Rattle.machine.specs.State.{State, pair_bytes, word_bytes, thread_bytes, state_bytes}
use Rattle.machine.specs.Internal.Kept.{nobody, EightRegisters}
use Rattle.machine.specs.declared.thread.Thread.{Thread}

-- two bytes say no more of a number than this
pub pair_bytes-part : (n : ℕ) → (n % 65536 / 256 % 256 ≡ n / 256 % 256) × (n % 65536 % 256 ≡ n % 256)
pair_bytes-part n = (omega arith, omega arith)

module _ {A : Type 0} (bytes : A → List ℕ) where
  -- the first i elements are written from `at` on, and the next one after them
  pub write_each : (k : ℕ) (l : List ℕ) (at : ℕ) (xs : List A) (i : ℕ) (d : A) → i < length xs → length (flat_map bytes (take i xs)) ≡ k * i
      → sets (sets l at (flat_map bytes (take i xs))) (at + k * i) (bytes (get_or xs i d)) ≡ sets l at (flat_map bytes (take (i + 1) xs))
  write_each k l at xs i d h e = rw (flat_map-next bytes xs i d h, sets-append, e)

pub length-words : (xs : List ℕ) → length (flat_map word_bytes xs) ≡ 4 * length xs
unfolding word_bytes
length-words xs = length-flat_map word_bytes 4 xs 0 (λ i h. refl)

pub length-first_words : (xs : List ℕ) (n : ℕ) → n ≤ length xs → length (flat_map word_bytes (take n xs)) ≡ 4 * n
length-first_words xs n h = length-words (take n xs) ∙ rw (length-take-le n xs h)

pub length-thread : (th : Thread) → length th.registers ≡ register_count → length (thread_bytes th) ≡ thread_size
unfolding thread_bytes pair_bytes
length-thread th e = ap suc (ap suc (length-words th.registers ∙ rw e))

pub length-first_threads : (xs : List Thread) (n : ℕ) → n ≤ length xs → ((i : ℕ) → i < n → length (get_or xs i nobody).registers ≡ register_count)
    → length (flat_map thread_bytes (take n xs)) ≡ thread_size * n
length-first_threads xs n h r =
    let e = length-take-le n xs h in
    length-flat_map thread_bytes thread_size (take n xs) nobody
    (λ i l. let k : i < n = omega (arith, e) in rw (get_or-take n xs i nobody k) (length-thread (get_or xs i nobody) (r i k)))
    ∙ rw e

pub registers_first : (n : ℕ) (ths : List Thread) → n ≤ thread_limit → EightRegisters ths
    → (t : ℕ) → t < length (take n ths) → length (get_or (take n ths) t nobody).registers ≡ register_count
unfolding EightRegisters
registers_first n ths few each t h =
    let k : t < n = omega (arith, length-take n ths) in rw (get_or-take n ths t nobody k) (each t (omega arith))

-- the three parts of the state, each written past the one before
pub write_state : (out : List ℕ) (s : State) (n m : ℕ) → length (flat_map word_bytes s.variables) ≡ n → n + length s.locks ≡ m
    → sets (sets (sets out 0 (flat_map word_bytes s.variables)) n s.locks) m (flat_map thread_bytes s.threads) ≡ sets out 0 (state_bytes s)
unfolding state_bytes
write_state out s n m e f =
    rw (
      sets-append out 0 (flat_map word_bytes s.variables ++ s.locks) (flat_map thread_bytes s.threads),
      sets-append out 0 (flat_map word_bytes s.variables) s.locks,
      length-append,
      e,
      zero-add,
      zero-add,
      f,
    )
