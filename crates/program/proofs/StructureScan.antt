-- From structured code to the scan of `Nesting`. Assumes nothing.
--     unnamed_before                   no entry names a place that lies before all named ones
--     scan_plain                       one turn of the scan at a plain instruction
--     scan_if, scan_while, scan_atomic
--                                      ... at an opener
--     scan_else, scan_again, scan_choice_end, scan_block_end
--                                      ... at a closer
--     scan_flat                        the scan over the flat writing of a code
--     scan_all                         it passes the flat writing of well formed code that is at most 16 deep
use Prim.Native.Nat.{ℕ, suc, ◌+◌, ◌≤◌, ◌<◌}
use native.Mathlib.Omega.{arith}
use mathlib.Core.Bool.{true}
use mathlib.Core.Path.{◌≡◌, refl, sym, ap, ◌∙◌}
use mathlib.Core.List.{List, [], ◌∷◌, ◌++◌, append_assoc, append-nil}
use lib.ListN.{length}
use borrow.Author.Tests.{lt-ltb, eq-eqb, ne_eqb}
use Rattle.std.specs.Prelude.{None}
use Rattle.program.specs.declared.instruction.Instruction.{Instruction}
use Rattle.program.specs.declared.instruction.Instruction.TheVariants.{If, Else, While, Again, Atomic, End}
use Rattle.program.specs.View.{Plain, form_of}
use Rattle.program.specs.declared.nesting.Entry.{Entry}
use Rattle.program.specs.declared.nesting.Entry.TheVariants as entry
use Rattle.program.specs.Nesting.{opened, named, unnamed, opening, passing, at_else, at_again, at_end, nest, at_code_end, first_broken}
use Rattle.program.specs.Code.{Code, done, plain, choice, loop, block, size}
use Rattle.program.specs.Limits.{entry_limit}
use Rattle.program.specs.Internal.WellFormed.{flat, WellFormed, depth, Beyond}

-- ---- a turn of the scan

-- the innermost named place is not before q, so no place before q is named
unnamed_before : (p q : ℕ) (es : List Entry) → p < q → Beyond q es → unnamed p es ≡ true
unfolding unnamed Beyond
unnamed_before p q [] l b = refl
unnamed_before p q (e ∷ es) l b = rw (ne_eqb (named e) p (omega arith))

module _ (p : ℕ) (is : List Instruction) (es : List Entry) where
  -- it goes on behind a plain instruction
  scan_plain : (i : Instruction) → form_of i ≡ Plain → unnamed p es ≡ true → first_broken p (i ∷ is) es ≡ first_broken (suc p) is es
  unfolding first_broken nest passing
  scan_plain i e u = rw (e, u)

  -- an opener's entry opens
  opens : (n : ℕ) (e : Entry) → unnamed p es ≡ true → 0 < n → length es < entry_limit → opening p n e es ≡ opened (e ∷ es)
  unfolding opening
  opens n e u d l = rw (u, ne_eqb n 0 (omega arith), lt-ltb (length es) entry_limit l)

  scan_if : (r n : ℕ) → unnamed p es ≡ true → 0 < n → length es < entry_limit → first_broken p (If r n ∷ is) es ≡ first_broken (suc p) is (entry.Then (p + n) ∷ es)
  unfolding first_broken nest form_of
  scan_if r n u d l = rw (opens n (entry.Then (p + n)) u d l)

  scan_while : (r n : ℕ) → unnamed p es ≡ true → 0 < n → length es < entry_limit → first_broken p (While r n ∷ is) es ≡ first_broken (suc p) is (entry.Loop (p + n) n ∷ es)
  unfolding first_broken nest form_of
  scan_while r n u d l = rw (opens n (entry.Loop (p + n) n) u d l)

  scan_atomic : (a n : ℕ) → unnamed p es ≡ true → 0 < n → length es < entry_limit → first_broken p (Atomic a n ∷ is) es ≡ first_broken (suc p) is (entry.Block (p + n) ∷ es)
  unfolding first_broken nest form_of
  scan_atomic a n u d l = rw (opens n (entry.Block (p + n)) u d l)

  -- a closer at the place that the innermost entry names closes it
  scan_else : (n : ℕ) → 0 < n → first_broken p (Else n ∷ is) (entry.Then p ∷ es) ≡ first_broken (suc p) is (entry.Else (p + n) ∷ es)
  unfolding first_broken nest form_of at_else
  scan_else n d = rw (eq-eqb p p refl, ne_eqb n 0 (omega arith))

  scan_again : (n : ℕ) → 0 < n → first_broken p (Again n ∷ is) (entry.Loop p n ∷ es) ≡ first_broken (suc p) is es
  unfolding first_broken nest form_of at_again
  scan_again n d = rw (eq-eqb p p refl, ne_eqb n 0 (omega arith), eq-eqb n n refl)

  scan_choice_end : first_broken p (End ∷ is) (entry.Else p ∷ es) ≡ first_broken (suc p) is es
  unfolding first_broken nest form_of at_end
  scan_choice_end = rw (eq-eqb p p refl)

  scan_block_end : first_broken p (End ∷ is) (entry.Block p ∷ es) ≡ first_broken (suc p) is es
  unfolding first_broken nest form_of at_end
  scan_block_end = rw (eq-eqb p p refl)

-- ---- the scan over the flat writing

-- from place p to place q, behind the code, if no entry is to be closed before that
scan_flat : (c : Code) (p q : ℕ) (rest : List Instruction) (es : List Entry) → p + size c ≡ q → WellFormed c → length es + depth c ≤ entry_limit → Beyond q es
    → first_broken p (flat c ++ rest) es ≡ first_broken q rest es
unfolding flat size depth WellFormed Beyond named
scan_flat done p q rest es e w d b = ap (λ (p : ℕ). first_broken p rest es) (omega arith)
scan_flat (plain i c) p q rest es e w d b =
    scan_plain p (flat c ++ rest) es i w.0 (unnamed_before p q es (omega arith) b) ∙ scan_flat c (suc p) q rest es (omega arith) w.1 d b
scan_flat (choice r x y c) p q rest es e w d b =
    let n = size x + 1 in
    let m = size y + 1 in
    rw (append_assoc (flat x) (Else m ∷ flat y ++ (End ∷ flat c)) rest, append_assoc (flat y) (End ∷ flat c) rest)
    (scan_if p (flat x ++ (Else m ∷ flat y ++ (End ∷ (flat c ++ rest)))) es r n (unnamed_before p q es (omega arith) b) (omega arith) (omega arith)
    ∙ scan_flat x (suc p) (p + n) (Else m ∷ flat y ++ (End ∷ (flat c ++ rest))) (entry.Then (p + n) ∷ es) (omega arith) w.0 (omega arith) (omega arith)
    ∙ scan_else (p + n) (flat y ++ (End ∷ (flat c ++ rest))) es m (omega arith)
    ∙ scan_flat y (suc (p + n)) (p + n + m) (End ∷ (flat c ++ rest)) (entry.Else (p + n + m) ∷ es) (omega arith) w.1 (omega arith) (omega arith)
    ∙ scan_choice_end (p + n + m) (flat c ++ rest) es
    ∙ scan_flat c (suc (p + n + m)) q rest es (omega arith) w.2 (omega arith) b)
scan_flat (loop r a c) p q rest es e w d b =
    let n = size a + 1 in
    rw (append_assoc (flat a) (Again n ∷ flat c) rest)
    (scan_while p (flat a ++ (Again n ∷ (flat c ++ rest))) es r n (unnamed_before p q es (omega arith) b) (omega arith) (omega arith)
    ∙ scan_flat a (suc p) (p + n) (Again n ∷ (flat c ++ rest)) (entry.Loop (p + n) n ∷ es) (omega arith) w.0 (omega arith) (omega arith)
    ∙ scan_again (p + n) (flat c ++ rest) es n (omega arith)
    ∙ scan_flat c (suc (p + n)) q rest es (omega arith) w.1 (omega arith) b)
scan_flat (block stated a c) p q rest es e w d b =
    let n = size a + 1 in
    rw (append_assoc (flat a) (End ∷ flat c) rest)
    (scan_atomic p (flat a ++ (End ∷ (flat c ++ rest))) es stated n (unnamed_before p q es (omega arith) b) (omega arith) (omega arith)
    ∙ scan_flat a (suc p) (p + n) (End ∷ (flat c ++ rest)) (entry.Block (p + n) ∷ es) (omega arith) w.0 (omega arith) (omega arith)
    ∙ scan_block_end (p + n) (flat c ++ rest) es
    ∙ scan_flat c (suc (p + n)) q rest es (omega arith) w.1 (omega arith) b)

-- the whole code, with no entry open
pub scan_all : (c : Code) → WellFormed c → depth c ≤ entry_limit → first_broken 0 (flat c) [] ≡ None
unfolding first_broken at_code_end Beyond
scan_all c w d = ap (λ (is : List Instruction). first_broken 0 is []) (sym (append-nil (flat c))) ∙ scan_flat c 0 (size c) [] [] (omega arith) w (omega arith) tt
