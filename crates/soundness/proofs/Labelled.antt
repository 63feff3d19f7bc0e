-- Where moves lead, said once. Assumes nothing.
--     instructions_of          the instructions of rows
--     rows_flat, length-rows   the rows' instructions are the code's flat writing
--     label_begins, label_past the label where the code begins, and the one behind it
--     moves                    every move of the machine through the flat writing is along an edge whose condition holds
use Rattle.std.proofs.Common.{ℕ, suc, ◌+◌, ◌≤◌, ◌<◌, zero-add, arith, eqb-true, ◌≡◌, refl, sym, ap, ◌∙◌, subst, Bool, true, false, List, ◌∷◌, map, length, get_or, eqb}
use borrow.Author.Tests.{eqb-false}
use mathlib.Core.List.{map-append}
use Rattle.std.proofs.Math.ListN.{length-map, get_or-map, get_or-eq_default}
use Rattle.machine.specs.Step.{place_after, place_behind, branch, reg}
use Rattle.program.proofs.StructureFlat.{length-flat}
use Rattle.program.specs.Choice.{choose}
use Rattle.program.specs.Code.{Code, size}
use Rattle.program.specs.Internal.WellFormed.{flat}
use Rattle.program.specs.View.{form_of, Form, Plain}
use Rattle.program.specs.declared.instruction.Instruction.{Instruction}
use Rattle.program.specs.declared.instruction.Instruction.TheVariants.{End}
use Rattle.reduction.specs.Sequence.{All, all_nil, all_cons}
use Rattle.reduction.proofs.Sequence.{all_before, all_behind}
use Rattle.soundness.specs.Internal.Labelled.{Condition, if_zero, if_not_zero, Meets, meets_always, meets_zero, meets_not_zero, Tree, done, plain, choice, loop, block, Row, Edge, row, edge, rows, label_at, begins, edges, Arrives, MovesFrom}
use Rattle.soundness.specs.Internal.Places.{Reads, Span}
use Rattle.soundness.proofs.Places.{span_empty, span_one, span_join, reads_first, reads_apart}

-- ---- where the machine goes

-- a plain instruction goes to the next place
plain_place : (i : Instruction) → form_of i ≡ Plain → (r : List ℕ) (q : ℕ) → place_after i r q ≡ q + 1
unfolding place_after place_behind
plain_place i e r q = ap (λ (f : Form). place_behind f r q) e

-- IF and WHILE go to one of two places, by their register
branch_place : (P : ℕ → Type 0) (r : List ℕ) (a n q : ℕ) → (Meets r (if_zero a) → P (q + n + 1)) → (Meets r (if_not_zero a) → P (q + 1))
    → P (branch r a n q)
unfolding branch
branch_place P r a n q f g = by_test (eqb (reg r a) 0) refl
  where
    by_test : (b : Bool) → eqb (reg r a) 0 ≡ b → P (choose b (q + n + 1) (q + 1))
    by_test true e = f (meets_zero (eqb-true (reg r a) 0 e))
    by_test false e = g (meets_not_zero (eqb-false (reg r a) 0 e))

module _ {L : Type 0} where
  -- ---- the flat writing

  abbrev pub instructions_of : List (Row L) → List Instruction
  instructions_of = map (λ (r : Row L). r.instruction)

  pub rows_flat : {c : Code} (u : Tree L c) → instructions_of (rows u) ≡ flat c
  unfolding rows flat
  rows_flat done = refl
  rows_flat (plain {i} x f u) = ap (λ (k : List Instruction). i ∷ k) (rows_flat u)
  rows_flat (choice x y z u v w) = simp (map-append (λ (r : Row L). r.instruction), rows_flat u, rows_flat v, rows_flat w)
  rows_flat (loop x y u v) = simp (map-append (λ (r : Row L). r.instruction), rows_flat u, rows_flat v)
  rows_flat (block x y u v) = simp (map-append (λ (r : Row L). r.instruction), rows_flat u, rows_flat v)

  pub length-rows : {c : Code} (u : Tree L c) → length (rows u) ≡ size c
  length-rows {c} u = sym (length-map (rows u) (λ (r : Row L). r.instruction)) ∙ ap (λ (l : List Instruction). length l) (rows_flat u) ∙ length-flat c

  -- ---- the moves

  module _ (P : Edge L → Type 0) (past : Row L) (h : ℕ → Row L) (last : ℕ) where
    abbrev label_of : ℕ → L
    label_of q = (h q).label

    abbrev Moves : ℕ → ℕ → Type 0
    Moves = Span (λ (q : ℕ). MovesFrom P label_of last (h q) q)

    move : {from : Row L} (q : ℕ) → h q ≡ from → MovesFrom P label_of last from q → Moves q (suc q)
    move q e f = span_one (λ (q : ℕ). MovesFrom P label_of last (h q) q) q (subst (λ (r : Row L). MovesFrom P label_of last r q) (sym e) f)

    infixr 5 ◌then◌
    ◌then◌ : {w u v : ℕ} → Moves w u → Moves u v → Moves w v
    x then y = span_join (λ (q : ℕ). MovesFrom P label_of last (h q) q) x y

    -- by an edge to a place that may be written otherwise
    arrives : {i : Instruction} {x y : L} {o : Condition} {registers : List ℕ} {to to' : ℕ}
        → P (edge i x o y) → Meets registers o → y ≡ label_of to → to ≡ to' → to ≤ last → Arrives P label_of last (row i x) registers to'
    arrives {i} {x} {o} {registers} p k e f b = subst (Arrives P label_of last (row i x) registers) f (record {
      condition = o;
      holds = k;
      along = subst (λ (y : L). P (edge i x o y)) e p;
      within = b;
    })

    -- the label of what is read
    label_read : {i : Instruction} {x : L} {q : ℕ} → h q ≡ row i x → x ≡ label_of q
    label_read e = sym (ap (λ (r : Row L). r.label) e)

    -- code read from place w to before v, at which `next` stands
    moves_read : {c : Code} (u : Tree L c) (next : L) (w v : ℕ) → w + size c ≡ v → Reads past h w (rows u) → next ≡ label_of v → v ≤ last
        → All P (edges u next) → (begins u next ≡ label_of w) × Moves w v
    unfolding size rows edges place_after place_behind form_of
    moves_read done next w v e r n b all_nil =
        let here : v ≡ w = omega arith in
        (n ∙ ap label_of here, subst (Moves w) (sym here) (span_empty (λ (q : ℕ). MovesFrom P label_of last (h q) q) w))
    moves_read (plain {i} x f u) next w v e read n b (all_cons p ps) =
        reads_first read λ h₀ r.
        let (s, rest) = moves_read u next (suc w) v (omega arith) r n b ps in
        (label_read h₀, move w h₀ (λ g. arrives p meets_always s (omega (arith, plain_place i f g w)) (omega arith)) then rest)
    moves_read (choice {r = reg} {a} {b = a'} x y z u u' u'') next w v e read n b (all_cons p₁ (all_cons p₂ (all_cons p₃ (all_cons p₄ ps)))) =
        reads_first read λ h₀ r.
        reads_apart (rows u) (length-rows u) r λ r₁ h₁ r'.
        reads_apart (rows u') (length-rows u') r' λ r₂ h₂ r₃.
        let w₁ = suc w + size a in
        let w₂ = suc w₁ + size a' in
        let qs = all_behind (edges u y) ps in
        let (s₁, m₁) = moves_read u y (suc w) w₁ refl r₁ (label_read h₁) (omega arith) (all_before (edges u y) _ ps) in
        let (s₂, m₂) = moves_read u' z (suc w₁) w₂ refl r₂ (label_read h₂) (omega arith) (all_before (edges u' z) _ qs) in
        let (s₃, m₃) = moves_read u'' next (suc w₂) v (omega arith) r₃ n b (all_behind (edges u' z) qs) in (
          label_read h₀,
          move w h₀ (λ g. branch_place (Arrives P label_of last _ g) g reg (size a + 1) w
              (λ k. arrives p₂ k s₂ (omega arith) (omega arith)) (λ k. arrives p₁ k s₁ (omega arith) (omega arith)))
              then m₁ then move w₁ h₁ (λ g. arrives p₃ meets_always (label_read h₂) (omega arith) (omega arith))
              then m₂ then move w₂ h₂ (λ g. arrives p₄ meets_always s₃ (omega arith) (omega arith)) then m₃,
        )
    moves_read (loop {r = reg} {a} x y u u') next w v e read n b (all_cons p₁ (all_cons p₂ (all_cons p₃ ps))) =
        reads_first read λ h₀ r.
        reads_apart (rows u) (length-rows u) r λ r₁ h₁ r₂.
        let w₁ = suc w + size a in
        let (s₁, m₁) = moves_read u y (suc w) w₁ refl r₁ (label_read h₁) (omega arith) (all_before (edges u y) _ ps) in
        let (s₂, m₂) = moves_read u' next (suc w₁) v (omega arith) r₂ n b (all_behind (edges u y) ps) in (
          label_read h₀,
          move w h₀ (λ g. branch_place (Arrives P label_of last _ g) g reg (size a + 1) w
              (λ k. arrives p₂ k s₂ (omega arith) (omega arith)) (λ k. arrives p₁ k s₁ (omega arith) (omega arith)))
              then m₁ then move w₁ h₁ (λ g. arrives p₃ meets_always (label_read h₀) (omega arith) (omega arith)) then m₂,
        )
    moves_read (block {a} x y u u') next w v e read n b (all_cons p₁ (all_cons p₂ ps)) =
        reads_first read λ h₀ r.
        reads_apart (rows u) (length-rows u) r λ r₁ h₁ r₂.
        let w₁ = suc w + size a in
        let (s₁, m₁) = moves_read u y (suc w) w₁ refl r₁ (label_read h₁) (omega arith) (all_before (edges u y) _ ps) in
        let (s₂, m₂) = moves_read u' next (suc w₁) v (omega arith) r₂ n b (all_behind (edges u y) ps) in (
          label_read h₀,
          move w h₀ (λ g. arrives p₁ meets_always s₁ (omega arith) (omega arith))
              then m₁ then move w₁ h₁ (λ g. arrives p₂ meets_always s₂ (omega arith) (omega arith)) then m₂,
        )

  -- ---- the whole code

  module _ {c : Code} (u : Tree L c) (next : L) where
    -- behind the code is what follows
    pub label_past : (q : ℕ) → length (flat c) ≤ q → label_at u next q ≡ next
    label_past q h =
        let k : length (rows u) ≤ q = omega (arith, length-rows u, length-flat c) in
        ap (λ (r : Row L). r.label) (get_or-eq_default (rows u) (row End next) k)

    -- a row is the code's instruction with the label
    row_at : (q : ℕ) → get_or (rows u) q (row End next) ≡ row (get_or (flat c) q End) (label_at u next q)
    row_at q = ap (λ (i : Instruction). row i (label_at u next q))
        (sym (get_or-map (λ (r : Row L). r.instruction) (rows u) q (row End next)) ∙ ap (λ (l : List Instruction). get_or l q End) (rows_flat u))

    module _ (P : Edge L → Type 0) (each : All P (edges u next)) where
      whole : (begins u next ≡ label_at u next 0) × Moves P (row End next) (λ (q : ℕ). get_or (rows u) q (row End next)) (length (flat c)) 0 (length (flat c))
      whole =
          moves_read P (row End next) (λ (q : ℕ). get_or (rows u) q (row End next)) (length (flat c)) u next 0 (length (flat c)) (omega (arith, length-flat c))
          (record { reads = λ q b. ap (λ (j : ℕ). get_or (rows u) j (row End next)) (zero-add q) })
          (sym (label_past (length (flat c)) (omega arith))) (omega arith) each

      pub label_begins : begins u next ≡ label_at u next 0
      label_begins = whole.0

      -- what holds of every edge holds of every move of the machine
      pub moves : (q : ℕ) → q < length (flat c)
          → MovesFrom P (label_at u next) (length (flat c)) (row (get_or (flat c) q End) (label_at u next q)) q
      moves q h = subst (λ (r : Row L). MovesFrom P (label_at u next) (length (flat c)) r q) (row_at q) (whole.1 q (omega arith) h)
