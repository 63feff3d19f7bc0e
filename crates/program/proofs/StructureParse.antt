-- Every scan that passes reads well formed code: by recursion on the number of instructions, since what follows a body is no part of
-- the pattern. Assumes nothing.
--     body_if, body_else, body_while, body_atomic      an opener's body, up to the closer that its entry wants
--     body_length                                      ... is no longer than what was read
--     split_loop, split_block, split_choice            the flat writing of a construct from that of its parts
--     join_plain, join_choice, join_loop, join_block   a construct from its parts
--     parse_closes, parse_turn, parse, parsed_all      the recursion
--     read_nested                                      instructions that the scan passes write out a code
use Prim.Native.Nat.{ℕ, zero, suc, ◌+◌, ◌≤◌, ◌<◌}
use native.Mathlib.Omega.{arith}
use mathlib.Core.Path.{◌≡◌, refl, sym, ap, ◌∙◌, subst}
use mathlib.Core.List.{List, [], ◌∷◌, ◌++◌, append_assoc, append-nil}
use lib.ListN.{length, length-append}
use Rattle.program.specs.declared.instruction.Instruction.{Instruction}
use Rattle.program.specs.declared.instruction.Instruction.TheVariants as instruction
use Rattle.program.specs.View.{Plain, form_of}
use Rattle.program.specs.declared.nesting.Entry.{Entry}
use Rattle.program.specs.declared.nesting.Entry.TheVariants as entry
use Rattle.program.specs.Code.{Code, done, plain, choice, loop, block, size}
use Rattle.program.specs.Limits.{entry_limit}
use Rattle.program.specs.Internal.WellFormed.{flat, WellFormed, depth, Writes, Passes, Closes, at_code_end_closer, at_else_closer, at_again_closer, at_choice_end, at_block_end, ComesTo, closes, at_plain, at_if, at_while, at_atomic, Parsed, Body, Parser}
use Rattle.program.proofs.StructureFlat.{length-flat}
use Rattle.program.proofs.StructureTurn.{comes_to}

-- ---- the body of an opener

module _ {q w : ℕ} {is : List Instruction} {es : List Entry} where
  -- what was read up to a closer
  body : {e : Entry} {es' : List Entry} {i : Instruction} (after : List Instruction) (a : Parsed q is (e ∷ es)) → flat a.code ++ (i ∷ after) ≡ is
      → w ≡ q + size a.code → Passes (suc w) after es' → Body q w is es es' i
  body after a s e h = record
      { code = a.code; after = after; split = s; well_formed = a.well_formed; shallow = a.shallow; place = e; passes = h }

  -- the closer that each entry wants
  body_if : Parsed q is (entry.Then w ∷ es) → (n : ℕ) × Body q w is es (entry.Else (w + n) ∷ es) (instruction.Else n)
  body_if a = go a.stops a.split
    where
      go : {rest : List Instruction} → Closes (q + size a.code) rest (entry.Then w ∷ es) → flat a.code ++ rest ≡ is
          → (n : ℕ) × Body q w is es (entry.Else (w + n) ∷ es) (instruction.Else n)
      go (at_else_closer {n} {is = after} e h) s = (n, body after a s e h)

  body_else : Parsed q is (entry.Else w ∷ es) → Body q w is es es instruction.End
  body_else a = go a.stops a.split
    where
      go : {rest : List Instruction} → Closes (q + size a.code) rest (entry.Else w ∷ es) → flat a.code ++ rest ≡ is → Body q w is es es instruction.End
      go (at_choice_end {is = after} e h) s = body after a s e h

  body_while : {n : ℕ} → Parsed q is (entry.Loop w n ∷ es) → Body q w is es es (instruction.Again n)
  body_while {n} a = go a.stops a.split
    where
      go : {rest : List Instruction} → Closes (q + size a.code) rest (entry.Loop w n ∷ es) → flat a.code ++ rest ≡ is → Body q w is es es (instruction.Again n)
      go (at_again_closer {is = after} e h) s = body after a s e h

  body_atomic : Parsed q is (entry.Block w ∷ es) → Body q w is es es instruction.End
  body_atomic a = go a.stops a.split
    where
      go : {rest : List Instruction} → Closes (q + size a.code) rest (entry.Block w ∷ es) → flat a.code ++ rest ≡ is → Body q w is es es instruction.End
      go (at_block_end {is = after} e h) s = body after a s e h

-- a body and what stands after its closer are as long as what was read
body_length : {q w : ℕ} {is : List Instruction} {es es' : List Entry} {i : Instruction} (a : Body q w is es es' i) → size a.code + suc (length a.after) ≡ length is
body_length {i = i} a = rw (← (length-flat a.code), ← a.split, length-append (flat a.code) (i ∷ a.after))

-- ---- the flat writing of a construct, from that of its parts

split_loop : (r n : ℕ) (a c : Code) (after rest is : List Instruction) → n ≡ size a + 1 → flat a ++ (instruction.Again n ∷ after) ≡ is → flat c ++ rest ≡ after
    → flat (loop r a c) ++ rest ≡ instruction.While r n ∷ is
unfolding flat
split_loop r n a c after rest is e f g = rw (← f, ← g, e, append_assoc)

split_block : (stated n : ℕ) (a c : Code) (after rest is : List Instruction) → n ≡ size a + 1 → flat a ++ (instruction.End ∷ after) ≡ is → flat c ++ rest ≡ after
    → flat (block stated a c) ++ rest ≡ instruction.Atomic stated n ∷ is
unfolding flat
split_block stated n a c after rest is e f g = rw (← f, ← g, e, append_assoc)

split_choice : (r n m : ℕ) (a b c : Code) (after after' rest is : List Instruction) → n ≡ size a + 1 → m ≡ size b + 1
    → flat a ++ (instruction.Else m ∷ after) ≡ is → flat b ++ (instruction.End ∷ after') ≡ after → flat c ++ rest ≡ after'
    → flat (choice r a b c) ++ rest ≡ instruction.If r n ∷ is
unfolding flat
split_choice r n m a b c after after' rest is e e' f f' g = rw (← f, ← f', ← g, e, e', append_assoc, append_assoc)

-- ---- a construct and what follows it, from its parts

module _ {p : ℕ} {is : List Instruction} {es : List Entry} where
  join_plain : (i : Instruction) → form_of i ≡ Plain → Parsed (suc p) is es → Parsed p (i ∷ is) es
  unfolding flat size depth WellFormed
  join_plain i e c = record {
    code = plain i c.code;
    rest = c.rest;
    split = ap {B = List Instruction} (λ x. i ∷ x) c.split;
    well_formed = (e, c.well_formed);
    shallow = c.shallow;
    stops = subst (λ (q : ℕ). Closes q c.rest es) (omega arith) c.stops;
  }

  join_choice : (r n m : ℕ) (a : Body (suc p) (p + n) is es (entry.Else (p + n + m) ∷ es) (instruction.Else m))
      (b : Body (suc (p + n)) (p + n + m) a.after es es instruction.End) → Parsed (suc (p + n + m)) b.after es → Parsed p (instruction.If r n ∷ is) es
  unfolding size depth WellFormed
  join_choice r n m a b c = record {
    code = choice r a.code b.code c.code;
    rest = c.rest;
    split = split_choice r n m a.code b.code c.code a.after b.after c.rest is (omega arith) (omega arith) a.split b.split c.split;
    well_formed = (a.well_formed, b.well_formed, c.well_formed);
    shallow = omega arith;
    stops = subst (λ (q : ℕ). Closes q c.rest es) (omega arith) c.stops;
  }

  join_loop : (r n : ℕ) (a : Body (suc p) (p + n) is es es (instruction.Again n)) → Parsed (suc (p + n)) a.after es → Parsed p (instruction.While r n ∷ is) es
  unfolding size depth WellFormed
  join_loop r n a c = record {
    code = loop r a.code c.code;
    rest = c.rest;
    split = split_loop r n a.code c.code a.after c.rest is (omega arith) a.split c.split;
    well_formed = (a.well_formed, c.well_formed);
    shallow = omega arith;
    stops = subst (λ (q : ℕ). Closes q c.rest es) (omega arith) c.stops;
  }

  join_block : (stated n : ℕ) (a : Body (suc p) (p + n) is es es instruction.End) → Parsed (suc (p + n)) a.after es → Parsed p (instruction.Atomic stated n ∷ is) es
  unfolding size depth WellFormed
  join_block stated n a c = record {
    code = block stated a.code c.code;
    rest = c.rest;
    split = split_block stated n a.code c.code a.after c.rest is (omega arith) a.split c.split;
    well_formed = (a.well_formed, c.well_formed);
    shallow = omega arith;
    stops = subst (λ (q : ℕ). Closes q c.rest es) (omega arith) c.stops;
  }

-- at a closer or the code's end nothing more is read
parse_closes : {p : ℕ} {is : List Instruction} {es : List Entry} → length es ≤ entry_limit → Closes p is es → Parsed p is es
unfolding flat size depth WellFormed
parse_closes {p} {is} {es} m h = record
    { code = done; rest = is; split = refl; well_formed = tt; shallow = omega arith; stops = subst (λ (q : ℕ). Closes q is es) (omega arith) h }

-- one construct, with a parser for what is shorter
parse_turn : {k p : ℕ} {is : List Instruction} {es : List Entry} → Parser k → length is < suc k → length es ≤ entry_limit → ComesTo p is es → Parsed p is es
parse_turn parser l m (closes c) = parse_closes m c
parse_turn {p} {es} parser l m (at_plain {i} {is = is} e h) = join_plain i e (parser (suc p) is es (omega arith) m h)
parse_turn {p} {es} parser l m (at_if {r} {n} {is = is} s h) =
    let (d, a) = body_if (parser (suc p) is (entry.Then (p + n) ∷ es) (omega arith) s h) in
    let la = body_length a in
    let b = body_else (parser (suc (p + n)) a.after (entry.Else (p + n + d) ∷ es) (omega arith) s a.passes) in
    join_choice r n d a b (parser (suc (p + n + d)) b.after es (omega (arith, body_length b)) m b.passes)
parse_turn {p} {es} parser l m (at_while {r} {n} {is = is} s h) =
    let a = body_while (parser (suc p) is (entry.Loop (p + n) n ∷ es) (omega arith) s h) in
    join_loop r n a (parser (suc (p + n)) a.after es (omega (arith, body_length a)) m a.passes)
parse_turn {p} {es} parser l m (at_atomic {a = stated} {n = n} {is = is} s h) =
    let a = body_atomic (parser (suc p) is (entry.Block (p + n) ∷ es) (omega arith) s h) in
    join_block stated n a (parser (suc (p + n)) a.after es (omega (arith, body_length a)) m a.passes)

-- whatever the number of instructions
parse : (k : ℕ) → Parser k
parse zero p is es l m h = absurd (omega arith)
parse (suc k) p is es l m h = parse_turn (parse k) l m (comes_to p is es h)

-- with no entry open it reads everything
parsed_all : {is : List Instruction} → Parsed 0 is [] → (c : Code) × Writes is c
parsed_all {is} a = go a.stops a.split
  where
    go : {rest : List Instruction} → Closes (0 + size a.code) rest [] → flat a.code ++ rest ≡ is → (c : Code) × Writes is c
    go at_code_end_closer s =
        (a.code, record { flat_is = sym (append-nil (flat a.code)) ∙ s; well_formed = a.well_formed; shallow = omega arith })

pub read_nested : (is : List Instruction) → Passes 0 is [] → (c : Code) × Writes is c
read_nested is h = parsed_all (parse (suc (length is)) 0 is [] (omega arith) (omega arith) h)
