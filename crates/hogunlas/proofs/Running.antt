-- What run answers at each place where its code returns. Assumes nothing.
--     entries_searched
--                    a list whose entries all name threads is searched in vain
--     every_entry    each entry of a list that was searched in vain names a thread
--     run_refused    the file is refused
--     run_long       the list is too long
--     run_thread     an entry names no thread
--     run_short      the buffer is too short for the state
--     run_done       the list is run
use Rattle.std.proofs.Common.{◌≡◌, refl, ℕ, ◌+◌, ◌*◌, ◌<◌, ◌≤◌, ltb, List, length, get_or, arith, le-leb, lt-ltb, ltb-true, Option, Some, None, Ok, Err}
use borrow.Author.Tests.{lt-leb}
use Rattle.judge.specs.Acceptance.{accept}
use Rattle.machine.specs.Run.{Entries, run}
use Rattle.program.proofs.Search.{first_bad_nowhere, first_bad_all}
use Rattle.program.specs.Choice.{first_bad}
use Rattle.program.specs.Layout.{program_of}
use Rattle.program.specs.Limits.{size_of_state, list_limit}
use Rattle.program.specs.declared.layout.Layout.{Layout}
use Rattle.program.specs.declared.refusal.Refusal.{Refusal}
use Rattle.program.specs.declared.refusal.Refusal.TheVariants.{LongList, ThreadNumber, ShortBuffer}
use Rattle.hogunlas.specs.Calls.{run_answer}
use Rattle.hogunlas.specs.Internal.Opened.{Opened}
use Rattle.hogunlas.proofs.Opening.{state_size_lem}

-- the bytes that the end state takes
abbrev end_state_size : Layout → ℕ
end_state_size l = size_of_state l.variables l.locks l.threads

-- where the list first names no thread
abbrev bad_entry : (threads : ℕ) → List ℕ → Option ℕ
bad_entry threads list = first_bad (λ i. ltb (get_or list i 0) threads) 1 (length list) 0

-- a list whose entries all name threads is searched in vain
pub entries_searched : (threads : ℕ) (list : List ℕ) → Entries threads list → bad_entry threads list ≡ None
unfolding Entries
entries_searched threads list h =
    first_bad_all (λ i. ltb (get_or list i 0) threads) 1 (length list) 0
    (λ i k. let at : 0 + 1 * i ≡ i = omega arith in rw at (lt-ltb (get_or list i 0) threads (h i k)))

-- each entry of a list that was searched in vain names a thread
pub every_entry : (threads : ℕ) (list : List ℕ) → bad_entry threads list ≡ None → Entries threads list
unfolding Entries
every_entry threads list e i h =
    let at : 0 + 1 * i ≡ i = omega arith in
    ltb-true (get_or list i 0) threads (rw at at (first_bad_nowhere (λ k. ltb (get_or list k 0) threads) 1 (length list) 0 e i h))

module _ (s list : List ℕ) (room : ℕ) where
  -- the file is refused
  pub run_refused : (r : Refusal) → accept s ≡ Err r → run_answer s list room ≡ Err r
  unfolding run_answer
  run_refused r e = rw e refl

  module _ (l : Layout) (report : List ℕ) (o : Opened s l report) where
    -- the list is too long
    pub run_long : list_limit < length list → run_answer s list room ≡ Err (LongList list_limit)
    unfolding run_answer
    run_long h = rw (o.accepts, lt-leb (length list) list_limit h) refl

    -- the program has the file's threads
    threads_tested : (f : Option ℕ) → bad_entry l.threads list ≡ f → bad_entry (program_of s l).threads list ≡ f
    unfolding program_of
    threads_tested f e = e

    module _ (h : length list ≤ list_limit) where
      -- an entry names no thread
      pub run_thread : (i : ℕ) → bad_entry l.threads list ≡ Some i → run_answer s list room ≡ Err (ThreadNumber i)
      unfolding run_answer
      run_thread i e = rw (o.accepts, le-leb (length list) list_limit h, threads_tested (Some i) e) refl

      module _ (e : bad_entry l.threads list ≡ None) where
        -- the buffer is too short for the state
        pub run_short : room < end_state_size l → run_answer s list room ≡ Err (ShortBuffer (end_state_size l))
        unfolding run_answer
        run_short k =
            rw (o.accepts, le-leb (length list) list_limit h, threads_tested None e, state_size_lem s l, lt-leb (end_state_size l) room k) refl

        -- the list is run
        pub run_done : end_state_size l ≤ room → run_answer s list room ≡ Ok (run (program_of s l) list)
        unfolding run_answer
        run_done k =
            rw (o.accepts, le-leb (length list) list_limit h, threads_tested None e, state_size_lem s l, le-leb (end_state_size l) room k) refl
