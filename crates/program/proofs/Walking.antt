-- The walk over a code section, one instruction at a time. Assumes nothing.
--     walked_then       the walk's answer, and go on: both searches, one after the other
--     Walking           what holds at the loop's head: both searches and the marks from there on are the whole ones
--     walking_start     ... where the loop begins
--     ends_invalid      an instruction that is not valid ends the walk
--     changed_broken, plain_broken
--                       nesting is broken at an opener or a closer, at any other: the rest of the search decides
--     walking_changed, walking_plain
--                       ... after an opener or a closer, after any other
--     walking_nested, walking_open
--                       the code's end
use Prim.Native.Nat.{ℕ, suc, ◌+◌, ◌-◌, ◌*◌, ◌<◌, ◌≤◌}
use mathlib.Core.Path.{◌≡◌, refl, sym, ap, ◌∙◌}
use mathlib.Core.Bool.{true, false}
use mathlib.Core.List.{List, [], ◌∷◌}
use native.Mathlib.Omega.{arith}
use lib.Dec.{eqb}
use lib.ListN.{length}
use Rattle.std.specs.Prelude.{Option, None, Some, Ok, Err}
use Rattle.std.specs.List.{slice_get}
use Rattle.program.specs.Answer.{Answer, ◌>>=◌, require_none}
use Rattle.program.specs.Choice.{choose}
use Rattle.program.specs.Field.{byte_at}
use Rattle.program.specs.Instruction.{is_valid, decode_at, decoded_instruction}
use Rattle.program.specs.View.{form_of, access_of}
use Rattle.program.specs.Layout.{instructions_at, offset_from}
use Rattle.program.specs.Limits.{variable_limit}
use Rattle.program.specs.Nesting.{OpenAfter, broken, opened, unnamed, passing, nest, first_broken, at_code_end}
use Rattle.program.specs.Internal.Change.{changed, Fulfils}
use Rattle.program.specs.Internal.Marks.{write_row, marked_at, marked, marked_all}
use Rattle.program.specs.Internal.Rows.{row_of, number_of, is_nesting, row_form}
use Rattle.program.specs.Internal.Walk.{first_invalid, refused_at, walked}
use Rattle.program.specs.declared.instruction.Instruction.{Instruction}
use Rattle.program.specs.declared.instruction.Row.{Row}
use Rattle.program.specs.declared.nesting.Entry.{Entry}
use Rattle.program.specs.declared.nesting.Change.{Change}
use Rattle.program.specs.declared.refusal.Refusal.TheVariants.{Instruction as InstructionAt, Nesting}
use Rattle.program.proofs.Decode.{row_form_lem, row_plain}
use Rattle.program.proofs.Differ.{differ}
use Rattle.program.proofs.Marks.{row_marks, nesting_unmarked, length-by_row}
use Rattle.program.proofs.Scan.{rest_from, rest_start, rest_passed, rest_broken, rest_end}
use Rattle.program.proofs.Search.{first_bad_good, first_bad_bad, first_bad_end}

-- the walk's answer, and go on: what the definition of a code section does
pub walked_then : {A : Type 0} (a b : Option ℕ) (x : Answer A) (w : Answer Unit) → w ≡ walked a b
    → (w >>= λ _. x) ≡ require_none a InstructionAt (require_none b Nesting x)
walked_then (Some k) b x w e = rw e
walked_then None (Some k) x w e = rw e
walked_then None None x w e = rw e

walked_broken : (a : Option ℕ) (d : ℕ) → Err (refused_at a d) ≡ walked a (Some d)
walked_broken (Some k) d = refl
walked_broken None d = refl

-- the code's end, by the innermost entry
none_open : (p : ℕ) (es : List Entry) → slice_get es 0 ≡ None → at_code_end p es ≡ None
unfolding at_code_end
none_open p [] e = refl
none_open p (x ∷ es) e = differ cc

some_open : (p : ℕ) (es : List Entry) (x : Entry) → slice_get es 0 ≡ Some x → at_code_end p es ≡ Some p
unfolding at_code_end
some_open p [] x e = differ cc
some_open p (y ∷ es) x e = refl

module _ (locks variables : ℕ) (s : List ℕ) (start n bit : ℕ) (before : List ℕ) where
  abbrev instruction : ℕ → Instruction
  instruction p = decoded_instruction (decode_at locks variables s (start + 4 * p))

  abbrev pub ValidAt : ℕ → Type 0
  ValidAt p = is_valid (decode_at locks variables s (start + 4 * p)) ≡ true

  -- what the walk answers
  abbrev pub whole : Answer Unit
  whole = walked (first_invalid locks variables s n start) (offset_from start (first_broken 0 (instructions_at locks variables s n start) []))

  pub record Walking (entries : List Entry) (table : List ℕ) (p : ℕ) : Type 0 where
    pub valid_rest : first_invalid locks variables s (n - p) (start + 4 * p) ≡ first_invalid locks variables s n start
    pub nested_rest : rest_from locks variables s start n p entries ≡ first_broken 0 (instructions_at locks variables s n start) []
    pub table_length : length table ≡ variable_limit
    pub marked_rest : marked_all bit (instructions_at locks variables s (n - p) (start + 4 * p)) table ≡ marked_all bit (instructions_at locks variables s n start) before

  pub walking_start : length before ≡ variable_limit → Walking [] before 0
  walking_start l =
      let m : n - 0 ≡ n = omega arith in
      let o : start + 4 * 0 ≡ start = omega arith in
      record { valid_rest = rw (m, o); nested_rest = rest_start locks variables s start n; table_length = l; marked_rest = rw (m, o) }

  module _ (entries : List Entry) (table : List ℕ) (p : ℕ) (x : Walking entries table p) where
    module _ (more : p < n) where
      pub ends_invalid : is_valid (decode_at locks variables s (start + 4 * p)) ≡ false → Err (InstructionAt (start + 4 * p)) ≡ whole
      ends_invalid bad =
          rw (← x.valid_rest, first_bad_bad (λ q. is_valid (decode_at locks variables s q)) 4 (n - p) (start + 4 * p) (omega arith) bad)

      module _ (valid : ValidAt p) where
        -- the instruction is passed by the search
        passed : first_invalid locks variables s (n - p - 1) (start + 4 * p + 4) ≡ first_invalid locks variables s n start
        passed = sym (first_bad_good (λ q. is_valid (decode_at locks variables s q)) 4 (n - p) (start + 4 * p) (omega arith) valid) ∙ x.valid_rest

        ends_broken : nest p (form_of (instruction p)) entries ≡ broken
            → Err (refused_at (first_invalid locks variables s (n - p - 1) (start + 4 * p + 4)) (start + 4 * p)) ≡ whole
        ends_broken e =
            rw (passed, ← x.nested_rest, rest_broken locks variables s start n p entries more e)
            (walked_broken (first_invalid locks variables s n start) (start + 4 * p))

        walking_passed : (entries' : List Entry) (table' : List ℕ) → nest p (form_of (instruction p)) entries ≡ opened entries'
            → marked bit (access_of (instruction p)) table ≡ table' → length table' ≡ variable_limit → Walking entries' table' (p + 1)
        unfolding marked_all instructions_at
        walking_passed entries' table' e m l =
            let fewer : n - (p + 1) ≡ n - p - 1 = omega arith in
            let one : n - p ≡ suc (n - p - 1) = omega arith in
            let next : start + 4 * (p + 1) ≡ start + 4 * p + 4 = omega arith in
            record {
              valid_rest = rw (fewer, next) passed;
              nested_rest = sym (rest_passed locks variables s start n p entries entries' more e) ∙ x.nested_rest;
              table_length = l;
              marked_rest = rw (fewer, next, ← m) (rw one at x.marked_rest);
            }

        -- an instruction whose row is known
        module _ (r : Row) (is_row : number_of r ≡ row_of (byte_at s (start + 4 * p))) where
          marks : marked bit (access_of (instruction p)) table ≡ choose (eqb (number_of r) write_row) (marked_at bit (byte_at s (start + 4 * p + 2)) table) table
          unfolding decode_at
          marks = rw is_row (row_marks locks variables _ _ _ _ valid bit table)

          -- an opener or a closer
          module _ (nests : is_nesting r ≡ true) (n' : ℕ) (e : n' ≡ byte_at s (start + 4 * p + 2) * 256 + byte_at s (start + 4 * p + 3)) where
            has_form : form_of (instruction p) ≡ row_form r (byte_at s (start + 4 * p + 1)) n'
            unfolding decode_at
            has_form = row_form_lem locks variables _ _ _ _ valid r is_row nests ∙ ap (row_form r (byte_at s (start + 4 * p + 1))) (sym e)

            abbrev pub wanted : OpenAfter
            wanted = nest p (row_form r (byte_at s (start + 4 * p + 1)) n') entries

            pub changed_broken : (t : Option Change) → Fulfils t entries wanted → t ≡ None
                → Err (refused_at (first_invalid locks variables s (n - p - 1) (start + 4 * p + 4)) (start + 4 * p)) ≡ whole
            changed_broken t f is = ends_broken (rw (has_form, ← f.does, is))

            pub walking_changed : (t : Option Change) (ch : Change) → Fulfils t entries wanted → t ≡ Some ch → (entries' : List Entry) → entries' ≡ changed ch entries
                → Walking entries' table (p + 1)
            walking_changed t ch f is entries' e' =
                walking_passed entries' table (rw (has_form, ← f.does, is, e')) (rw (marks, nesting_unmarked r nests)) x.table_length

          -- any other
          module _ (other : is_nesting r ≡ false) where
            passes : nest p (form_of (instruction p)) entries ≡ passing p entries
            unfolding nest decode_at
            passes = rw (row_plain locks variables _ _ _ _ valid r is_row other)

            pub plain_broken : unnamed p entries ≡ false
                → Err (refused_at (first_invalid locks variables s (n - p - 1) (start + 4 * p + 4)) (start + 4 * p)) ≡ whole
            unfolding passing
            plain_broken e = ends_broken (rw (passes, e))

            pub walking_plain : unnamed p entries ≡ true → (table' : List ℕ)
                → table' ≡ choose (eqb (number_of r) write_row) (marked_at bit (byte_at s (start + 4 * p + 2)) table) table
                → Walking entries table' (p + 1)
            unfolding passing
            walking_plain e table' m =
                walking_passed entries table' (rw (passes, e)) (marks ∙ sym m) (length-by_row (number_of r) bit _ table table' m ∙ x.table_length)

    module _ (none : n ≤ p) where
      at_end_lem : walked None (offset_from start (at_code_end p entries)) ≡ whole
      at_end_lem = rw (
        ← x.valid_rest,
        first_bad_end (λ q. is_valid (decode_at locks variables s q)) 4 (n - p) (start + 4 * p) (omega arith),
        ← x.nested_rest,
        rest_end locks variables s start n p entries none,
      )

      pub walking_nested : slice_get entries 0 ≡ None → (Ok tt ≡ whole) × (table ≡ marked_all bit (instructions_at locks variables s n start) before)
      unfolding marked_all instructions_at
      walking_nested e =
          let zero_left : n - p ≡ 0 = omega arith in
          (rw (none_open p entries e) at at_end_lem, rw zero_left at x.marked_rest)

      pub walking_open : (e : Entry) → slice_get entries 0 ≡ Some e → p ≤ n → Err (Nesting (start + 4 * n)) ≡ whole
      walking_open e is last =
          let same : n ≡ p = omega arith in
          ap (λ (q : ℕ). Err (Nesting (start + 4 * q))) same ∙ rw (some_open p entries e is) at at_end_lem
