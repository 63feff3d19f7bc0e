-- Threads by two lists, their places and their registers, as the free `write_state` is lent them. A run kept them so up to landing 11
-- (docs/LANDINGS.md names the laws), and nothing cites threads_set and threads_place since it keeps records. Assumes nothing.
--     threads_at      a thread, by its number
--     threads_next    one thread more, as a loop makes records of the lists
--     threads_set     another one at a number
--     threads_place   ... with the same registers
use Rattle.std.proofs.Common.{◌≡◌, ℕ, zero, suc, ◌+◌, ◌<◌, List, [], ◌∷◌, length, get_or, take, set, sym, refl, ap, ◌∙◌, add-one, arith, take-suc, take-suc-set}
use lib.Seq.{set-get_or}
use Rattle.machine.specs.Internal.Kept.{thread_in, threads_in, nobody}
use Rattle.machine.specs.declared.thread.Thread.{Thread}

pub threads_at : (places : List ℕ) (registers : List (List ℕ)) (t : ℕ) → t < length (threads_in places registers)
    → get_or (threads_in places registers) t nobody ≡ thread_in places registers t
unfolding threads_in
threads_at [] rs t h = absurd (let z : ⊥ = omega arith in z)
threads_at (p ∷ ps) [] t h = absurd (let z : ⊥ = omega arith in z)
threads_at (p ∷ ps) (r ∷ rs) zero h = refl
threads_at (p ∷ ps) (r ∷ rs) (suc t) h = threads_at ps rs t (omega arith)

-- a turn of the loop that fills an array with them
pub threads_next : (places : List ℕ) (registers : List (List ℕ)) (ths : List Thread) (t : ℕ) → t < length ths → t < length (threads_in places registers)
    → take t ths ≡ take t (threads_in places registers)
    → take (t + 1) (set ths t (thread_in places registers t)) ≡ take (t + 1) (threads_in places registers)
threads_next places registers ths t h k e =
    rw (
      add-one,
      take-suc-set ths t (thread_in places registers t) h,
      take-suc (threads_in places registers) t nobody k,
      threads_at places registers t k,
      e,
    )

pub threads_set : (places : List ℕ) (registers : List (List ℕ)) (t place : ℕ) (row : List ℕ)
    → threads_in (set places t place) (set registers t row) ≡ set (threads_in places registers) t (record { place = place; registers = row })
unfolding threads_in
threads_set [] rs t p r = refl
threads_set (q ∷ ps) [] zero p r = refl
threads_set (q ∷ ps) [] (suc t) p r = refl
threads_set (q ∷ ps) (u ∷ rs) zero p r = refl
threads_set (q ∷ ps) (u ∷ rs) (suc t) p r = ap (λ (ths : List Thread). record { place = q; registers = u } ∷ ths) (threads_set ps rs t p r)

pub threads_place : (places : List ℕ) (registers : List (List ℕ)) (t : ℕ) (th : Thread) → th.registers ≡ get_or registers t []
    → threads_in (set places t th.place) registers ≡ set (threads_in places registers) t th
threads_place ps rs t th e =
    ap (threads_in (set ps t th.place)) (sym (ap (set rs t) e ∙ set-get_or rs t [])) ∙ threads_set ps rs t th.place th.registers
