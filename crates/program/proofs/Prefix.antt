-- Of a file's first 33,174 bytes, all that reading can look at: two files that agree on them, neither shorter, are refused alike.
-- Assumes nothing.
--     bind_alike         two answers that agree, and two ways to go on that agree
--     code_end, sections_end
--                        where reading stands after code sections
--     pair_alike, section_alike, record_alike, variables_alike, code_alike, sections_alike, threads_alike
--                        each piece of two such files
--     fields_alike, reading_alike
--                        two such files are read alike
--     largest_file_lem   a sound file has at most 33,173 bytes
--     refused_alike      both are refused, with the same refusal
use Prim.Native.Nat.{ℕ, zero, suc, ◌+◌, ◌*◌, ◌%◌, ◌/◌, ◌<◌, ◌≤◌}
use mathlib.Core.Path.{◌≡◌, refl, sym, ◌∙◌, ap}
use mathlib.Core.Bool.{Bool, ◌&&◌, and-eq-true_iff}
use mathlib.Core.List.{List, []}
use lib.ListN.{length}
use lib.Dec.{leb, eqb}
use native.Mathlib.Omega.{arith}
use borrow.Author.Tests.{leb-true, le-leb, ne_eqb}
use Rattle.program.specs.Answer.{Answer, ◌>>=◌, require, require_none}
use Rattle.std.specs.Prelude.{Ok, Err}
use Rattle.program.specs.Choice.{first_bad}
use Rattle.program.specs.Field.{byte_at, pair_at, cursor, present, pair_field, section}
use Rattle.program.specs.Variable.{record_at}
use Rattle.program.specs.Variable
use Rattle.program.specs.Instruction.{decode_at}
use Rattle.program.specs.Instruction
use Rattle.program.specs.Nesting.{first_broken}
use Rattle.program.specs.Layout.{instructions_at, variable_section, offset_from, code_section, code_sections, fields, reading}
use Rattle.program.specs.Limits.{lock_limit, thread_limit, variable_size, instruction_size, variable_section_limit, code_section_limit, record_offset, largest_file, bench_limit}
use Rattle.program.specs.Internal.Sound.{count_at, SoundSections, SoundFile}
use Rattle.program.specs.declared.cursor.Cursor.{Cursor}
use Rattle.program.specs.declared.layout.Layout.{Layout}
use Rattle.program.specs.declared.refusal.Refusal.{Refusal}
use Rattle.program.specs.declared.refusal.Refusal.TheVariants.{Missing, Version, Count, Length, Record, Nesting}
use Rattle.program.specs.declared.refusal.Refusal.TheVariants as refusal
use Rattle.program.proofs.Answer.{fine_parts, bind_ext, require_ext, bind_inv}
use Rattle.program.proofs.ReadBack.{section_value, variables_value, code_value}
use Rattle.program.proofs.ReadSound.{byte_there}
use Rattle.program.proofs.Sound.{sound_file}
use Rattle.program.proofs.Steps.{after_sections, after_variables, after_threads}

-- what a part of the file answers: a number, and the cursor past it
abbrev PartRead : Type 0
PartRead = Answer (ℕ × Cursor)

-- two answers that agree, and two ways to go on that agree wherever they are fine
bind_alike : (m n : PartRead) (k l : ℕ × Cursor → PartRead) → m ≡ n → ((x : ℕ × Cursor) → m ≡ Ok x → k x ≡ l x) → (m >>= k) ≡ (n >>= l)
bind_alike m n k l e h = bind_ext m k l h ∙ ap (λ (m : PartRead). m >>= l) e

-- two tests that agree wherever all bytes of a record are below n
first_bad_alike : (p q : ℕ → Bool) (step n : ℕ) → ((i : ℕ) → i + step ≤ n → p i ≡ q i) → (k at : ℕ) → at + step * k ≤ n
    → first_bad p step k at ≡ first_bad q step k at
unfolding first_bad
first_bad_alike p q step n same zero at h = refl
first_bad_alike p q step n same (suc k) at h =
    rw (same at (omega arith), first_bad_alike p q step n same k (at + step) (omega arith))

-- where reading stands after code sections, of 2 + 4,096 bytes at most each
module _ (locks variables : ℕ) (s : List ℕ) where
  code_end : (c : Cursor) (m : ℕ) (d : Cursor) → code_section locks variables s c ≡ Ok (m, d) → d.at ≤ c.at + (2 + code_section_limit)
  code_end c m d e =
      let r = code_value locks variables s c m d e in
      omega (arith, ap (λ (x : Cursor). x.at) r.past, r.head.few)

  sections_end : (n : ℕ) (c : Cursor) (m : ℕ) (d : Cursor) → code_sections locks variables s n c ≡ Ok (m, d) → d.at ≤ c.at + (2 + code_section_limit) * n
  unfolding code_sections
  sections_end zero c m d e =
      omega (arith, ap (λ (x : Cursor). x.at) (fine_parts (0, c) (m, d) e).1)
  sections_end (suc n) c m d e =
      bind_inv (code_section locks variables s c) _ e λ x e₁ f₁.
      bind_inv (code_sections locks variables s n x.1) _ f₁ λ y e₂ answer.
      omega (
        arith,
        ap (λ (x : Cursor). x.at) (fine_parts _ (m, d) answer).1,
        code_end c x.0 x.1 e₁,
        sections_end n x.1 y.0 y.1 e₂,
      )

-- two files that agree below n, neither shorter: each piece that ends by then is read alike. No byte is missing, so the length of the
-- file, the detail of that refusal, does not show
module _ (s t : List ℕ) (n : ℕ) (long_s : n ≤ length s) (long_t : n ≤ length t) (same : (i : ℕ) → i < n → byte_at s i ≡ byte_at t i) where
  pub pair_alike : (at : ℕ) → at + 2 ≤ n → pair_at s at ≡ pair_at t at
  pair_alike at h = rw (same at (omega arith), same (at + 1) (omega arith))

  section_alike : (size limit : ℕ) (c : Cursor) → c.at + 2 + limit ≤ n → section size limit s c ≡ section size limit t c
  unfolding section pair_field present
  section_alike size limit c h =
      let m = pair_at t c.at in
      let last : List ℕ → PartRead =
      λ f. require (leb (c.at + 2 + m) (length f)) (Missing (length f)) (Ok (m / size, cursor (c.at + 2))) in
      rw (le-leb (c.at + 2) (length s) (omega arith), le-leb (c.at + 2) (length t) (omega arith), pair_alike c.at (omega arith))
      (require_ext (eqb (m % size) 0 && leb m limit) (Length c.at) (last s) (last t)
      (λ ok.
      let few = leb-true m limit ((and-eq-true_iff (eqb (m % size) 0) (leb m limit)).0 ok).1 in
      rw (le-leb (c.at + 2 + m) (length s) (omega arith), le-leb (c.at + 2 + m) (length t) (omega arith))))

  pub record_alike : (locks threads at : ℕ) → at + 6 ≤ n → record_at locks threads s at ≡ record_at locks threads t at
  unfolding record_at
  record_alike locks threads at h = rw (same at (omega arith), same (at + 1) (omega arith))

  variables_alike : (locks threads : ℕ) (c : Cursor) → c.at + 386 ≤ n → variable_section locks threads s c ≡ variable_section locks threads t c
  unfolding variable_section
  variables_alike locks threads c h =
      let good : List ℕ → ℕ → Bool = λ f p. Variable.is_valid (record_at locks threads f p) in
      let rest : List ℕ → ℕ × Cursor → PartRead =
      λ f x. require_none (first_bad (good f) 6 x.0 x.1.at) Record (Ok (x.0, cursor (x.1.at + 6 * x.0))) in
      bind_alike (section variable_size variable_section_limit s c) (section variable_size variable_section_limit t c) (rest s) (rest t) (section_alike variable_size variable_section_limit c (omega arith))
      (λ x e.
      let r = section_value variable_size variable_section_limit s c x.0 x.1 e in
      let start : x.1.at ≡ c.at + 2 = ap (λ (x : Cursor). x.at) r.start in
      let below : x.1.at + 6 * x.0 ≤ n = omega (arith, r.few) in
      rw (first_bad_alike (good s) (good t) 6 n (λ i k. ap Variable.is_valid (record_alike locks threads i k)) x.0 x.1.at below))

  module _ (locks variables : ℕ) where
    decode_alike : (at : ℕ) → at + 4 ≤ n → decode_at locks variables s at ≡ decode_at locks variables t at
    unfolding decode_at
    decode_alike at h =
        rw (same at (omega arith), same (at + 1) (omega arith), same (at + 2) (omega arith), same (at + 3) (omega arith))

    instructions_alike : (k at : ℕ) → at + 4 * k ≤ n → instructions_at locks variables s k at ≡ instructions_at locks variables t k at
    unfolding instructions_at
    instructions_alike zero at h = refl
    instructions_alike (suc k) at h = rw (decode_alike at (omega arith), instructions_alike k (at + 4) (omega arith))

    code_alike : (c : Cursor) → c.at + (2 + code_section_limit) ≤ n → code_section locks variables s c ≡ code_section locks variables t c
    unfolding code_section
    code_alike c h =
        let good : List ℕ → ℕ → Bool = λ f p. Instruction.is_valid (decode_at locks variables f p) in
        let rest : List ℕ → ℕ × Cursor → PartRead =
        λ f x. require_none (first_bad (good f) 4 x.0 x.1.at) refusal.Instruction
        (require_none (offset_from x.1.at (first_broken 0 (instructions_at locks variables f x.0 x.1.at) [])) Nesting
        (Ok (x.0, cursor (x.1.at + 4 * x.0)))) in
        bind_alike (section instruction_size code_section_limit s c) (section instruction_size code_section_limit t c) (rest s) (rest t) (section_alike instruction_size code_section_limit c (omega arith))
        (λ x e.
        let r = section_value instruction_size code_section_limit s c x.0 x.1 e in
        let start : x.1.at ≡ c.at + 2 = ap (λ (x : Cursor). x.at) r.start in
        let below : x.1.at + 4 * x.0 ≤ n = omega (arith, r.few) in
        rw (
          first_bad_alike (good s) (good t) 4 n (λ i k. ap Instruction.is_valid (decode_alike i k)) x.0 x.1.at below,
          instructions_alike x.0 x.1.at below,
        ))

    sections_alike : (k : ℕ) (c : Cursor) → c.at + (2 + code_section_limit) * k ≤ n → code_sections locks variables s k c ≡ code_sections locks variables t k c
    unfolding code_sections
    sections_alike zero c h = refl
    sections_alike (suc k) c h =
        let rest : List ℕ → ℕ × Cursor → PartRead =
        λ f x. code_sections locks variables f k x.1 >>= (λ y. Ok (x.0 + y.0, y.1)) in
        bind_alike (code_section locks variables s c) (code_section locks variables t c) (rest s) (rest t) (code_alike c (omega arith))
        (λ x e. rw (sections_alike k x.1 (omega (arith, code_end locks variables s c x.0 x.1 e))))

  -- the end of what is read is the end of neither file
  end_alike : (x : ℕ × Cursor) → x.1.at < n → after_sections s x ≡ after_sections t x
  end_alike x h =
      rw (ne_eqb x.1.at (length s) (λ e. omega arith), ne_eqb x.1.at (length t) (λ e. omega arith))

  -- from the variable section on
  threads_alike : (locks threads : ℕ) → bench_limit ≤ n → after_threads s locks (threads, cursor 3) ≡ after_threads t locks (threads, cursor 3)
  threads_alike locks threads h =
      let rest : List ℕ → PartRead = λ f. variable_section locks threads f (cursor 3) >>= after_variables f locks threads in
      require_ext (leb 1 threads && leb threads thread_limit) (Count 2) (rest s) (rest t)
      (λ ok.
      let few = leb-true threads thread_limit ((and-eq-true_iff (leb 1 threads) (leb threads thread_limit)).0 ok).1 in
      bind_alike (variable_section locks threads s (cursor 3)) (variable_section locks threads t (cursor 3))
      (after_variables s locks threads) (after_variables t locks threads) (variables_alike locks threads (cursor 3) (omega arith))
      (λ x e.
      let r = variables_value locks threads s (cursor 3) x.0 x.1 e in
      let past : x.1.at ≡ record_offset x.0 = ap (λ (d : Cursor). d.at) r.past in
      let room : x.1.at + (2 + code_section_limit) * threads ≤ largest_file = omega (arith, r.head.few) in
      bind_alike (code_sections locks x.0 s threads x.1) (code_sections locks x.0 t threads x.1) (after_sections s) (after_sections t)
      (sections_alike locks x.0 threads x.1 (omega arith))
      (λ y g. end_alike y (omega (arith, sections_end locks x.0 s threads x.1 y.0 y.1 g)))))

  -- all fields, front to back
  pub fields_alike : bench_limit ≤ n → fields s ≡ fields t
  unfolding fields
  fields_alike h =
      rw (
        byte_there s 0 (omega arith),
        byte_there t 0 (omega arith),
        byte_there s 1 (omega arith),
        byte_there t 1 (omega arith),
        byte_there s 2 (omega arith),
        byte_there t 2 (omega arith),
        same 0 (omega arith),
        same 1 (omega arith),
        same 2 (omega arith),
      )
      (ap (λ (rest : PartRead). require (eqb (byte_at t 0) 1) (Version 0) (require (leb (byte_at t 1) lock_limit) (Count 1) rest))
      (threads_alike (byte_at t 1) (byte_at t 2) h))

  pub reading_alike : bench_limit ≤ n → reading s ≡ reading t
  unfolding reading
  reading_alike h =
      rw (fields_alike h, same 1 (omega arith), same 2 (omega arith), same 3 (omega arith), same 4 (omega arith))

-- n code sections to the file's end
length-sections : (s : List ℕ) (locks variables n at m : ℕ) → SoundSections s locks variables n at m → length s ≤ at + (2 + code_section_limit) * n
length-sections s locks variables zero at m h = omega (arith, h.0)
length-sections s locks variables (suc n) at m h =
    omega (arith, h.1.few, length-sections s locks variables n (at + 2 + 4 * count_at s at) h.0 h.3)

-- "The largest file has 33,173 bytes"
pub largest_file_lem : (s : List ℕ) (l : Layout) → SoundFile s l → length s ≤ largest_file
largest_file_lem s l h =
    omega (
      arith,
      h.variables,
      h.threads,
      length-sections s l.locks l.variables l.threads (record_offset l.variables) l.instructions h.sections,
    )

-- a longer file is refused
longer_refused : (s : List ℕ) → bench_limit ≤ length s → (m : Answer Layout) → reading s ≡ m → (r : Refusal) × (m ≡ Err r)
longer_refused s h (Err r) e = (r, refl)
longer_refused s h (Ok l) e = absurd (let none : ⊥ = omega (arith, largest_file_lem s l (sound_file s l e)) in none)

-- both are refused, with the same refusal
pub refused_alike : (s t : List ℕ) → bench_limit ≤ length s → bench_limit ≤ length t → ((i : ℕ) → i < bench_limit → byte_at s i ≡ byte_at t i)
    → (r : Refusal) × (reading s ≡ Err r) × (reading t ≡ Err r)
refused_alike s t long_s long_t same =
    let r = longer_refused s long_s (reading s) refl in
    (r.0, r.1, sym (reading_alike s t bench_limit long_s long_t same (omega arith)) ∙ r.1)
