-- What is known where reading a part of the file answered a value. Assumes nothing.
--     byte_value, pair_value           a field
--     Head, section_value              a section's head
--     VariablesRead, variables_value   the variable section
--     codes_in_lem                     the codes, by the numbers that were read before them
--     CodeRead, code_value             a code section
use Prim.Native.Nat.{ℕ, ◌+◌, ◌*◌, ◌/◌, ◌%◌, ◌≤◌}
use mathlib.Core.Path.{◌≡◌, refl, sym, ◌∙◌, ap}
use mathlib.Core.Bool.{◌&&◌, and-eq-true_iff}
use mathlib.Core.List.{List, []}
use lib.ListN.{length}
use lib.Dec.{leb, eqb}
use native.Mathlib.Nat.{div-add-mod', mul_comm}
use native.Mathlib.Omega.{arith}
use borrow.Author.Tests.{leb-true, eqb-true}
use Rattle.program.specs.Choice.{first_bad}
use Rattle.program.specs.Field.{byte_at, pair_at, cursor, present, byte_field, pair_field, section}
use Rattle.program.specs.Variable.{record_at}
use Rattle.program.specs.Variable
use Rattle.program.specs.Instruction.{decode_at}
use Rattle.program.specs.Instruction
use Rattle.program.specs.Nesting.{first_broken}
use Rattle.program.specs.Limits.{variable_size, instruction_size, variable_section_limit, code_section_limit, record_offset}
use Rattle.program.specs.Internal.Marks.{codes_in}
use Rattle.program.specs.Layout.{instructions_at, codes_at, variable_section, code_section, offset_from}
use Rattle.program.specs.declared.cursor.Cursor.{Cursor}
use Rattle.std.specs.Prelude.{Option, Some, None, Ok}
use Rattle.program.proofs.Answer.{fine_parts, bind_inv, require_inv, none_inv}
use Rattle.program.proofs.Differ.{differ}

-- a field of one byte, and of two
pub byte_value : (s : List ℕ) (c : Cursor) (v : ℕ) (d : Cursor) → byte_field s c ≡ Ok (v, d)
    → (c.at + 1 ≤ length s) × (v ≡ byte_at s c.at) × (d ≡ cursor (c.at + 1))
unfolding byte_field present
byte_value s c v d e =
    require_inv (leb (c.at + 1) (length s)) _ _ e λ there answer.
    let values = fine_parts _ (v, d) answer in
    (leb-true (c.at + 1) (length s) there, sym values.0, sym values.1)

pub pair_value : (s : List ℕ) (c : Cursor) (v : ℕ) (d : Cursor) → pair_field s c ≡ Ok (v, d)
    → (c.at + 2 ≤ length s) × (v ≡ pair_at s c.at) × (d ≡ cursor (c.at + 2))
unfolding pair_field present
pair_value s c v d e =
    require_inv (leb (c.at + 2) (length s)) _ _ e λ there answer.
    let values = fine_parts _ (v, d) answer in
    (leb-true (c.at + 2) (length s) there, sym values.0, sym values.1)

-- a quotient with no rest
divided : (m size n : ℕ) → m % size ≡ 0 → n ≡ m / size → m ≡ size * n
divided m size n r q =
    let k : size * n ≡ m / size * size = ap (λ (x : ℕ). size * x) q ∙ mul_comm size (m / size) in
    omega (arith, div-add-mod' m size)

-- a section's head: the length field, the number of records, and the bytes they take
pub record Head (size limit : ℕ) (s : List ℕ) (at n : ℕ) (first : Cursor) : Type 0 where
  pub length-there : at + 2 ≤ length s
  pub count : n ≡ pair_at s at / size
  pub exact : pair_at s at ≡ size * n
  pub few : size * n ≤ limit
  pub start : first ≡ cursor (at + 2)
  pub whole : at + 2 + size * n ≤ length s

pub section_value : (size limit : ℕ) (s : List ℕ) (c : Cursor) (n : ℕ) (first : Cursor) → section size limit s c ≡ Ok (n, first)
    → Head size limit s c.at n first
unfolding section present
section_value size limit s c n first e =
    bind_inv (pair_field s c) _ e λ x e₁ f₁.
    require_inv (eqb (x.0 % size) 0 && leb x.0 limit) _ _ f₁ λ tests f₂.
    require_inv (leb (x.1.at + x.0) (length s)) _ _ f₂ λ there answer.
    let m = x.0 in
    let p = pair_value s c m x.1 e₁ in
    let t = (and-eq-true_iff (eqb (m % size) 0) (leb m limit)).0 tests in
    let values = fine_parts _ (n, first) answer in
    let n_is : n ≡ m / size = sym values.0 in
    let exact = divided m size n (eqb-true (m % size) 0 t.0) n_is in
    let at_is : x.1.at ≡ c.at + 2 = ap (λ (d : Cursor). d.at) p.2 in
    record {
      length-there = p.0;
      count = n_is ∙ ap (λ (k : ℕ). k / size) p.1;
      exact = sym p.1 ∙ exact;
      few = omega (arith, leb-true m limit t.1);
      start = sym values.1 ∙ p.2;
      whole = omega (arith, leb-true (x.1.at + m) (length s) there);
    }

-- the variable section, and the cursor past it
pub record VariablesRead (locks threads : ℕ) (s : List ℕ) (at n : ℕ) (d : Cursor) : Type 0 where
  pub head : Head variable_size variable_section_limit s at n (cursor (at + 2))
  pub valid : first_bad (λ p. Variable.is_valid (record_at locks threads s p)) 6 n (at + 2) ≡ None
  pub past : d ≡ cursor (at + 2 + 6 * n)

pub variables_value : (locks threads : ℕ) (s : List ℕ) (c : Cursor) (n : ℕ) (d : Cursor) → variable_section locks threads s c ≡ Ok (n, d)
    → VariablesRead locks threads s c.at n d
unfolding variable_section
variables_value locks threads s c n d e =
    bind_inv (section variable_size variable_section_limit s c) _ e λ x e₁ f₁.
    none_inv (first_bad (λ p. Variable.is_valid (record_at locks threads s p)) 6 x.0 x.1.at) _ _ f₁ λ good answer.
    let g = section_value variable_size variable_section_limit s c x.0 x.1 e₁ in
    let values = fine_parts _ (n, d) answer in
    let n_is : x.0 ≡ n = values.0 in
    let d_is : cursor (x.1.at + 6 * x.0) ≡ d = values.1 in
    let at_is : x.1.at ≡ c.at + 2 = ap (λ (d : Cursor). d.at) g.start in
    record {
      head = rw (n_is, g.start) at g;
      valid = rw (n_is, at_is) at good;
      past = sym (rw (n_is, at_is) at d_is);
    }

-- the codes, by the numbers that were read before them
pub codes_in_lem : (s : List ℕ) (version locks threads variables : ℕ) (c₁ c₂ c₃ c₄ : Cursor) → byte_field s (cursor 0) ≡ Ok (version, c₁)
    → byte_field s c₁ ≡ Ok (locks, c₂) → byte_field s c₂ ≡ Ok (threads, c₃) → variable_section locks threads s c₃ ≡ Ok (variables, c₄)
    → codes_at locks variables s threads c₄.at ≡ codes_in s
codes_in_lem s version locks threads variables c₁ c₂ c₃ c₄ e₁ e₂ e₃ e₄ =
    let offset : (c : Cursor) (d : ℕ) → c ≡ cursor d → c.at ≡ d = λ c d e. ap (λ (x : Cursor). x.at) e in
    let at1 : c₁.at ≡ 1 = offset c₁ 1 (byte_value s (cursor 0) version c₁ e₁).2 in
    let l = byte_value s c₁ locks c₂ e₂ in
    let at2 : c₂.at ≡ 2 = offset c₂ (c₁.at + 1) l.2 ∙ ap (λ (x : ℕ). x + 1) at1 in
    let t = byte_value s c₂ threads c₃ e₃ in
    let at3 : c₃.at ≡ 3 = offset c₃ (c₂.at + 1) t.2 ∙ ap (λ (x : ℕ). x + 1) at2 in
    let v = variables_value locks threads s c₃ variables c₄ e₄ in
    let locks_is : locks ≡ byte_at s 1 = rw at1 at l.1 in
    let threads_is : threads ≡ byte_at s 2 = rw at2 at t.1 in
    let variables_is : variables ≡ pair_at s 3 / variable_size = rw at3 at v.head.count in
    let at4 : c₄.at ≡ record_offset variables = rw at3 at (offset c₄ (c₃.at + 2 + 6 * variables) v.past) in
    rw (at4, variables_is, locks_is, threads_is)

-- a code section, and the cursor past it
pub record CodeRead (locks variables : ℕ) (s : List ℕ) (at n : ℕ) (d : Cursor) : Type 0 where
  pub head : Head instruction_size code_section_limit s at n (cursor (at + 2))
  pub valid : first_bad (λ p. Instruction.is_valid (decode_at locks variables s p)) 4 n (at + 2) ≡ None
  pub nested : first_broken 0 (instructions_at locks variables s n (at + 2)) [] ≡ None
  pub past : d ≡ cursor (at + 2 + 4 * n)

-- an offset is nowhere only if the place is
offset_nowhere : (start : ℕ) (f : Option ℕ) → offset_from start f ≡ None → f ≡ None
offset_nowhere start None e = refl
offset_nowhere start (Some p) e = differ cc

pub code_value : (locks variables : ℕ) (s : List ℕ) (c : Cursor) (n : ℕ) (d : Cursor) → code_section locks variables s c ≡ Ok (n, d)
    → CodeRead locks variables s c.at n d
unfolding code_section
code_value locks variables s c n d e =
    bind_inv (section instruction_size code_section_limit s c) _ e λ x e₁ f₁.
    let nesting = first_broken 0 (instructions_at locks variables s x.0 x.1.at) [] in
    none_inv (first_bad (λ p. Instruction.is_valid (decode_at locks variables s p)) 4 x.0 x.1.at) _ _ f₁ λ good f₂.
    none_inv (offset_from x.1.at nesting) _ _ f₂ λ unbroken answer.
    let g = section_value instruction_size code_section_limit s c x.0 x.1 e₁ in
    let values = fine_parts _ (n, d) answer in
    let n_is : x.0 ≡ n = values.0 in
    let d_is : cursor (x.1.at + 4 * x.0) ≡ d = values.1 in
    let at_is : x.1.at ≡ c.at + 2 = ap (λ (d : Cursor). d.at) g.start in
    record {
      head = rw (n_is, g.start) at g;
      valid = rw (n_is, at_is) at good;
      nested = rw (n_is, at_is) at (offset_nowhere x.1.at nesting unbroken);
      past = sym (rw (n_is, at_is) at d_is);
    }
