-- What a scan that passes has come to: each turn of `first_broken` read backwards, from the answer to what was tested. Assumes nothing.
--     tested                            a test that was passed
--     turn_plain, turn_open             the turn at a plain instruction, at an opener
--     turn_else, turn_again, turn_end   at each closer: of all entries one only passes
--     comes_to                          all of them
use Prim.Native.Nat.{ℕ, suc, ◌+◌, ◌<◌}
use mathlib.Core.Bool.{Bool, true, false, ◌&&◌, not, and-eq-true_iff}
use mathlib.Core.Path.{◌≡◌, refl}
use mathlib.Core.List.{List, [], ◌∷◌}
use lib.ListN.{length}
use lib.Dec.{ltb, eqb}
use borrow.Author.Tests.{ltb-true, eqb-true}
use Rattle.program.specs.Choice.{choose}
use Rattle.std.specs.Prelude.{Option, Some, None}
use Rattle.program.specs.declared.instruction.Instruction.{Instruction}
use Rattle.program.specs.declared.instruction.Instruction.TheVariants.{Read, Write, Take, Give, If, Else, While, Again, Atomic, End}
use Rattle.program.specs.View.{Plain, form_of}
use Rattle.program.specs.declared.nesting.Entry.{Entry}
use Rattle.program.specs.declared.nesting.Entry.TheVariants as entry
use Rattle.program.specs.Limits.{entry_limit}
use Rattle.program.specs.Nesting.{broken, opened, unnamed, opening, passing, at_else, at_again, at_end, nest, at_code_end, go_on, first_broken}
use Rattle.program.specs.Internal.WellFormed.{Passes, Closes, at_code_end_closer, at_else_closer, at_again_closer, at_choice_end, at_block_end, ComesTo, closes, at_plain, at_if, at_while, at_atomic}
use Rattle.program.specs.Internal.Seen.{Seen, seen_local, seen_read, seen_write, seen_take, seen_give, seen_if, seen_else, seen_while, seen_again, seen_atomic, seen_end, seen}
use Rattle.program.proofs.Differ.{differ}
use Rattle.program.proofs.Seen.{own_plain}

-- ---- tests

-- broken somewhere is not broken nowhere
some≢none : {A : Type 0} {p : ℕ} → Some p ≡ None → A
some≢none e = differ cc

-- what was tested holds, and the rest passes
tested : (p : ℕ) (b : Bool) (es : List Entry) (rest : List Entry → Option ℕ) → go_on p (choose b (opened es) broken) rest ≡ None → (b ≡ true) × (rest es ≡ None)
tested p true es rest h = (refl, h)
tested p false es rest h = some≢none h

-- ---- turns

module _ (p : ℕ) (is : List Instruction) (es : List Entry) where
  -- at a plain instruction
  turn_plain : (i : Instruction) → form_of i ≡ Plain → Passes p (i ∷ is) es → ComesTo p (i ∷ is) es
  unfolding first_broken nest passing
  turn_plain i e h = at_plain e (tested p (unnamed p es) es (first_broken (suc p) is) (rw e at h)).1

  -- at an opener, whose entry is e
  turn_open : (n : ℕ) (e : Entry) → go_on p (opening p n e es) (first_broken (suc p) is) ≡ None → (length es < entry_limit) × Passes (suc p) is (e ∷ es)
  unfolding opening
  turn_open n e h =
      let t = tested p (unnamed p es && not (eqb n 0) && ltb (length es) entry_limit) (e ∷ es) (first_broken (suc p) is) h in
      (ltb-true (length es) entry_limit ((and-eq-true_iff (unnamed p es && not (eqb n 0)) (ltb (length es) entry_limit)).0 t.0).1, t.1)

module _ (p : ℕ) (is : List Instruction) where
  -- at each closer: of all entries one only passes
  turn_else : (n : ℕ) (es : List Entry) → go_on p (at_else p n es) (first_broken (suc p) is) ≡ None → Closes p (Else n ∷ is) es
  unfolding at_else
  turn_else n [] h = some≢none h
  turn_else n (entry.Then w ∷ es) h =
      let t = tested p (eqb w p && not (eqb n 0)) (entry.Else (p + n) ∷ es) (first_broken (suc p) is) h in
      let e = eqb-true w p ((and-eq-true_iff (eqb w p) (not (eqb n 0))).0 t.0).0 in
      at_else_closer e (rw (← e) at t.1)
  turn_else n (entry.Else w ∷ es) h = some≢none h
  turn_else n (entry.Loop w m ∷ es) h = some≢none h
  turn_else n (entry.Block w ∷ es) h = some≢none h

  turn_again : (n : ℕ) (es : List Entry) → go_on p (at_again p n es) (first_broken (suc p) is) ≡ None → Closes p (Again n ∷ is) es
  unfolding at_again
  turn_again n [] h = some≢none h
  turn_again n (entry.Then w ∷ es) h = some≢none h
  turn_again n (entry.Else w ∷ es) h = some≢none h
  turn_again n (entry.Loop w m ∷ es) h =
      let t = tested p (eqb w p && not (eqb n 0) && eqb n m) es (first_broken (suc p) is) h in
      let (first, distances) = (and-eq-true_iff (eqb w p && not (eqb n 0)) (eqb n m)).0 t.0 in
      let e = eqb-true w p ((and-eq-true_iff (eqb w p) (not (eqb n 0))).0 first).0 in
      rw (← (eqb-true n m distances)) (at_again_closer e (rw (← e) at t.1))
  turn_again n (entry.Block w ∷ es) h = some≢none h

  turn_end : (es : List Entry) → go_on p (at_end p es) (first_broken (suc p) is) ≡ None → Closes p (End ∷ is) es
  unfolding at_end
  turn_end [] h = some≢none h
  turn_end (entry.Then w ∷ es) h = some≢none h
  turn_end (entry.Else w ∷ es) h =
      let t = tested p (eqb w p) es (first_broken (suc p) is) h in
      let e = eqb-true w p t.0 in
      at_choice_end e (rw (← e) at t.1)
  turn_end (entry.Loop w m ∷ es) h = some≢none h
  turn_end (entry.Block w ∷ es) h =
      let t = tested p (eqb w p) es (first_broken (suc p) is) h in
      let e = eqb-true w p t.0 in
      at_block_end e (rw (← e) at t.1)

-- what a scan that passes has come to
pub comes_to : (p : ℕ) (is : List Instruction) (es : List Entry) → Passes p is es → ComesTo p is es
unfolding first_broken nest form_of at_code_end
comes_to p [] [] h = closes at_code_end_closer
comes_to p [] (e ∷ es) h = some≢none h
comes_to p (i ∷ is) es h = cases i (seen i) h
  where
    cases : (i : Instruction) → Seen i → go_on p (nest p (form_of i) es) (first_broken (suc p) is) ≡ None → ComesTo p (i ∷ is) es
    cases i (seen_local rs e) h = turn_plain p is es i (own_plain i e) h
    cases (Read a v) seen_read h = turn_plain p is es (Read a v) refl h
    cases (Write a v) seen_write h = turn_plain p is es (Write a v) refl h
    cases (Take k) seen_take h = turn_plain p is es (Take k) refl h
    cases (Give k) seen_give h = turn_plain p is es (Give k) refl h
    cases (If a n) seen_if h = let t = turn_open p is es n (entry.Then (p + n)) h in at_if t.0 t.1
    cases (Else n) seen_else h = closes (turn_else p is n es h)
    cases (While a n) seen_while h = let t = turn_open p is es n (entry.Loop (p + n) n) h in at_while t.0 t.1
    cases (Again n) seen_again h = closes (turn_again p is n es h)
    cases (Atomic a n) seen_atomic h = let t = turn_open p is es n (entry.Block (p + n)) h in at_atomic t.0 t.1
    cases End seen_end h = closes (turn_end p is es h)
