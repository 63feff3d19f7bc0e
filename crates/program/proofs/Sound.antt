-- What a file that is read as sound holds. Assumes nothing.
--     sections_sound   the code sections
--     FieldsRead, fields_sound
--                      all fields, front to back
--     sound_file       of a file that is read as sound
--     instructions_few at most 1,024 instructions for each thread
--     report_size_lem, report_few
--                      how many report bytes it has, and that they are no more than the longest report's
use Prim.Native.Nat.{ℕ, zero, suc, ◌+◌, ◌*◌, ◌/◌, ◌<◌, ◌≤◌}
use mathlib.Core.Path.{◌≡◌, refl, sym, ◌∙◌, ap, subst}
use mathlib.Core.Bool.{true, ◌&&◌, and-eq-true_iff}
use mathlib.Core.List.{List}
use lib.ListN.{length}
use lib.Dec.{leb, eqb}
use native.Mathlib.Omega.{arith}
use borrow.Author.Tests.{leb-true, eqb-true}
use Rattle.program.specs.Answer.{◌>>=◌}
use Rattle.std.specs.Prelude.{Ok}
use Rattle.program.specs.Field.{byte_at, pair_at, cursor, byte_field}
use Rattle.program.specs.Variable.{record_at}
use Rattle.program.specs.Variable
use Rattle.program.specs.Instruction.{decode_at}
use Rattle.program.specs.Instruction
use Rattle.program.specs.Layout.{program_of, codes_at, variable_section, code_section, code_sections, fields, reading}
use Rattle.program.specs.Limits.{lock_limit, thread_limit, variable_size, instruction_limit, variable_section_limit, report_limit, records_start, record_offset}
use Rattle.program.specs.Internal.Sound.{count_at, SoundSection, SoundSections, SoundFile, report_size}
use Rattle.program.specs.declared.cursor.Cursor.{Cursor}
use Rattle.program.specs.declared.layout.Layout.{Layout}
use Rattle.program.proofs.Answer.{fine_inj, fine_parts, bind_inv, require_inv}
use Rattle.program.proofs.Contents.{length-instructions}
use Rattle.program.proofs.Search.{first_bad_nowhere}
use Rattle.program.proofs.Steps.{after_threads, after_locks, after_version}
use Rattle.program.proofs.ReadBack.{Head, CodeRead, byte_value, variables_value, code_value}

-- one code section, by its own length field
section_sound : (locks variables : ℕ) (s : List ℕ) (at : ℕ) (d : Cursor) → CodeRead locks variables s at (count_at s at) d
    → SoundSection s locks variables at
section_sound locks variables s at d r = record {
  head = r.head.length-there;
  exact = r.head.exact;
  few = omega (arith, r.head.few);
  whole = r.head.whole;
  valid = first_bad_nowhere (λ p. Instruction.is_valid (decode_at locks variables s p)) 4 (count_at s at) (at + 2) r.valid;
  nested = r.nested;
}

-- the code sections that end at the file's end
pub sections_sound : (locks variables : ℕ) (s : List ℕ) (n : ℕ) (c : Cursor) (m : ℕ) (e : Cursor)
    → code_sections locks variables s n c ≡ Ok (m, e) → e.at ≡ length s → SoundSections s locks variables n c.at m
unfolding code_sections
sections_sound locks variables s zero c m e h l =
    let values = fine_parts (0, c) (m, e) h in
    (ap (λ (x : Cursor). x.at) values.1 ∙ l, sym values.0)
sections_sound locks variables s (suc n) c m e h l =
    bind_inv (code_section locks variables s c) _ h λ x e₁ f₁.
    bind_inv (code_sections locks variables s n x.1) _ f₁ λ y e₂ answer.
    let values = fine_parts _ (m, e) answer in
    let m_is : x.0 + y.0 ≡ m = values.0 in
    let r = code_value locks variables s c x.0 x.1 e₁ in
    let count = r.head.count in
    let end : y.1.at ≡ length s = ap (λ (d : Cursor). d.at) values.1 ∙ l in
    let rest = sections_sound locks variables s n x.1 y.0 y.1 e₂ end in
    let past : x.1.at ≡ c.at + 2 + 4 * count_at s c.at =
    ap (λ (d : Cursor). d.at) r.past ∙ ap (λ (k : ℕ). c.at + 2 + 4 * k) count in (
      y.0,
      section_sound locks variables s c.at x.1 (rw count at r),
      sym m_is ∙ ap (λ (k : ℕ). k + y.0) count,
      rw past at rest,
    )

-- what the fields say, by the numbers that were read
pub record FieldsRead (s : List ℕ) (locks threads variables m : ℕ) : Type 0 where
  pub few_locks : locks ≤ lock_limit
  pub some_thread : 1 ≤ threads
  pub few_threads : threads ≤ thread_limit
  pub section : Head variable_size variable_section_limit s 3 variables (cursor records_start)
  pub records : (i : ℕ) → i < variables → Variable.is_valid (record_at locks threads s (record_offset i)) ≡ true
  pub sections : SoundSections s locks variables threads (record_offset variables) m

-- from the variable section on
threads_sound : (s : List ℕ) (locks threads m : ℕ) (e : Cursor) → locks ≤ lock_limit → after_threads s locks (threads, cursor 3) ≡ Ok (m, e)
    → (variables : ℕ) × FieldsRead s locks threads variables m
threads_sound s locks threads m e k h =
    require_inv (leb 1 threads && leb threads thread_limit) _ _ h λ tests f₁.
    bind_inv (variable_section locks threads s (cursor 3)) _ f₁ λ x e₂ f₂.
    bind_inv (code_sections locks x.0 s threads x.1) _ f₂ λ y e₃ f₃.
    require_inv (eqb y.1.at (length s)) _ _ f₃ λ ends answer.
    let t = (and-eq-true_iff (leb 1 threads) (leb threads thread_limit)).0 tests in
    let v = variables_value locks threads s (cursor 3) x.0 x.1 e₂ in
    let m_is : y.0 ≡ m = (fine_parts _ (m, e) answer).0 in
    let end = eqb-true y.1.at (length s) ends in
    let past : x.1.at ≡ record_offset x.0 = ap (λ (d : Cursor). d.at) v.past in (
      x.0,
      record {
        few_locks = k;
        some_thread = leb-true 1 threads t.0;
        few_threads = leb-true threads thread_limit t.1;
        section = v.head;
        records = first_bad_nowhere (λ p. Variable.is_valid (record_at locks threads s p)) variable_size x.0 records_start v.valid;
        sections = rw (past, m_is) at (sections_sound locks x.0 s threads x.1 y.0 y.1 e₃ end);
      },
    )

-- all fields, front to back
pub fields_sound : (s : List ℕ) (m : ℕ) (e : Cursor) → fields s ≡ Ok (m, e)
    → (byte_at s 0 ≡ 1) × ((variables : ℕ) × FieldsRead s (byte_at s 1) (byte_at s 2) variables m)
unfolding fields
fields_sound s m e h =
    bind_inv (byte_field s (cursor 0)) (after_version s) h λ x e₁ f₁.
    require_inv (eqb x.0 1) _ (byte_field s x.1 >>= after_locks s) f₁ λ version f₂.
    let p = byte_value s (cursor 0) x.0 x.1 e₁ in
    let at1 : x.1 ≡ cursor 1 = p.2 in
    bind_inv (byte_field s (cursor 1)) (after_locks s) (rw at1 at f₂) λ y e₃ f₃.
    require_inv (leb y.0 lock_limit) _ (byte_field s y.1 >>= after_threads s y.0) f₃ λ locks f₄.
    let q = byte_value s (cursor 1) y.0 y.1 e₃ in
    let at2 : y.1 ≡ cursor 2 = q.2 in
    bind_inv (byte_field s (cursor 2)) (after_threads s (byte_at s 1)) (rw (at2, q.1) at f₄) λ z e₅ f₅.
    let r = byte_value s (cursor 2) z.0 z.1 e₅ in
    let at3 : z.1 ≡ cursor 3 = r.2 in
    let few = leb-true (byte_at s 1) lock_limit (rw q.1 at locks) in (
      sym p.1 ∙ eqb-true x.0 1 version,
      threads_sound s (byte_at s 1) (byte_at s 2) m e few (rw (at3, r.1) at f₅),
    )

-- of a file that is read as sound
pub sound_file : (s : List ℕ) (l : Layout) → reading s ≡ Ok l → SoundFile s l
unfolding reading
sound_file s l h =
    bind_inv (fields s) _ h λ x e answer.
    let n = pair_at s 3 / 6 in
    let all = fields_sound s x.0 x.1 e in
    let count = all.1.1.section.count in
    let r : FieldsRead s (byte_at s 1) (byte_at s 2) n x.0 = rw count at all.1.1 in
    subst (SoundFile s) (fine_inj _ l answer)
    (record {
      version = all.0;
      lock_count = refl;
      thread_count = refl;
      variable_count = r.section.exact;
      locks = r.few_locks;
      some_thread = r.some_thread;
      threads = r.few_threads;
      variables = omega (arith, r.section.few);
      section = omega (arith, r.section.whole);
      records = r.records;
      sections = r.sections;
    })

-- at most 1,024 instructions for each thread
sections_few : (s : List ℕ) (locks variables n at m : ℕ) → SoundSections s locks variables n at m → m ≤ instruction_limit * n
sections_few s locks variables zero at m h = omega (arith, h.1)
sections_few s locks variables (suc n) at m h =
    omega (arith, h.1.few, h.2, sections_few s locks variables n (at + 2 + 4 * count_at s at) h.0 h.3)

pub instructions_few : (s : List ℕ) (l : Layout) → SoundFile s l → l.instructions ≤ instruction_limit * l.threads
instructions_few s l f = sections_few s l.locks l.variables l.threads (record_offset l.variables) l.instructions f.sections

-- as many report bytes as instructions and threads
sections_size : (s : List ℕ) (locks variables n at m : ℕ) → SoundSections s locks variables n at m → report_size (codes_at locks variables s n at) ≡ m + n
unfolding report_size codes_at
sections_size s locks variables zero at m h = omega (arith, h.1)
sections_size s locks variables (suc n) at m h =
    omega
    (arith, length-instructions locks variables s (count_at s at) (at + 2), sections_size s locks variables n (at + 2 + 4 * count_at s at) h.0 h.3, h.2)

pub report_size_lem : (s : List ℕ) (l : Layout) → SoundFile s l → report_size (program_of s l).codes ≡ l.instructions + l.threads
unfolding program_of
report_size_lem s l f = sections_size s l.locks l.variables l.threads (record_offset l.variables) l.instructions f.sections

pub report_few : (s : List ℕ) (l : Layout) → SoundFile s l → l.instructions + l.threads ≤ report_limit
report_few s l f = omega (arith, instructions_few s l f, f.threads)
