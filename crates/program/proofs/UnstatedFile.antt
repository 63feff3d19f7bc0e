-- A file with its statements taken out (specs/Unstated.antt): if a file is sound, so is this one, and its program is the other's with its
-- statements taken out. Assumes nothing.
--     length-cleared, byte_cleared     as long as the file; each byte of it
--     among_other, among_at            which bytes of some instructions are statements
--     in_before                        ... of some sections: none before the first one's code
--     kept_unstated, lookup_keeps, atomic_decoded, decode_unstated
--                                      an instruction, decoded without its statement
--     instructions_unstated            instructions
--     Clears                           what the bytes of sections become
--     section_cleared, sections_cleared, codes_cleared
--                                      code sections
--     bare_sound, bare_program, file_cleared
--                                      the whole file
use Prim.Native.Nat.{ℕ, zero, suc, ◌+◌, ◌*◌, ◌/◌, ◌<◌, ◌≤◌}
use mathlib.Core.Path.{◌≡◌, refl, sym, ◌∙◌, ap}
use mathlib.Core.Logic.{◌≢◌}
use mathlib.Core.Bool.{Bool, true, false, ◌&&◌, ◌||◌, or-false, and-eq-true_iff}
use mathlib.Core.List.{List, [], ◌∷◌, map}
use lib.Dec.{ltb, eqb}
use lib.ListN.{length}
use native.Mathlib.Omega.{arith}
use borrow.Author.Tests.{eqb-true, eq-eqb, ne_eqb}
use Rattle.std.specs.Prelude.{Ok}
use Rattle.program.specs.Choice.{choose}
use Rattle.program.specs.Field.{byte_at, pair_at}
use Rattle.program.specs.Instruction.{Decoded, Valid, Invalid, TableRow, table, is_right_row, look_up, decode, decode_at, decoded_instruction}
use Rattle.program.specs.Instruction
use Rattle.program.specs.Layout.{instructions_at, variables_at, codes_at, program_of, reading}
use Rattle.program.specs.Limits.{statement_limit, records_start, record_offset}
use Rattle.program.specs.Unstated.{is_statement_among, is_statement_in, is_statement, cleared_from, without_statements}
use Rattle.program.specs.Variable.{variable_at, record_at}
use Rattle.program.specs.Variable
use Rattle.program.specs.View.{View, own, shares, nests, states, view_of}
use Rattle.program.specs.Internal.Sound.{count_at, SoundSection, SoundSections, SoundFile}
use Rattle.program.specs.Internal.Unstated.{unstated_as, unstated, unstated_section, unstated_program}
use Rattle.program.specs.declared.instruction.Instruction.{Instruction}
use Rattle.program.specs.declared.instruction.Instruction.TheVariants.{Atomic}
use Rattle.program.specs.declared.layout.Layout.{Layout}
use Rattle.program.proofs.Decode.{or_right}
use Rattle.program.proofs.Differ.{differ}
use Rattle.program.proofs.Prefix.{pair_alike, record_alike}
use Rattle.program.proofs.ReadSound.{file_sound}
use Rattle.program.proofs.Sound.{sound_file}
use Rattle.program.proofs.Unstated.{nested_unstated}

-- ---- bytes

same_either : {A : Type 0} (b : Bool) (x : A) → choose b x x ≡ x
same_either true x = refl
same_either false x = refl

length_from : (s : List ℕ) (d : ℕ) (bs : List ℕ) → length (cleared_from s d bs) ≡ length bs
unfolding cleared_from
length_from s d [] = refl
length_from s d (b ∷ bs) = ap suc (length_from s (suc d) bs)

byte_from : (s : List ℕ) (d : ℕ) (bs : List ℕ) (i : ℕ) → byte_at (cleared_from s d bs) i ≡ choose (is_statement s (d + i)) 0 (byte_at bs i)
unfolding cleared_from
byte_from s d [] i = sym (same_either (is_statement s (d + i)) 0)
byte_from s d (b ∷ bs) zero = ap (λ (k : ℕ). choose (is_statement s k) 0 b) (omega arith)
byte_from s d (b ∷ bs) (suc i) = byte_from s (suc d) bs i ∙ ap (λ (k : ℕ). choose (is_statement s k) 0 (byte_at bs i)) (omega arith)

length-cleared : (s : List ℕ) → length (without_statements s) ≡ length s
unfolding without_statements
length-cleared s = length_from s 0 s

byte_cleared : (s : List ℕ) (d : ℕ) → byte_at (without_statements s) d ≡ choose (is_statement s d) 0 (byte_at s d)
unfolding without_statements
byte_cleared s d = byte_from s 0 s d ∙ ap (λ (k : ℕ). choose (is_statement s k) 0 (byte_at s d)) (omega arith)

-- ---- which bytes are statements

module _ (s : List ℕ) where
  among_other : (n at d : ℕ) → ((k : ℕ) → k < n → d ≢ at + 4 * k + 1) → is_statement_among s n at d ≡ false
  unfolding is_statement_among
  among_other zero at d h = refl
  among_other (suc n) at d h =
      rw (ne_eqb d (at + 1) (λ e. h 0 (omega arith) (omega (arith, e))))
      (among_other n (at + 4) d (λ k l e. h (suc k) (omega arith) (omega (arith, e))))

  among_at : (n at k : ℕ) → k < n → is_statement_among s n at (at + 4 * k + 1) ≡ eqb (byte_at s (at + 4 * k)) 0x34
  unfolding is_statement_among
  among_at zero at k l = absurd (let none : ⊥ = omega arith in none)
  among_at (suc n) at zero l =
      let here : at + 4 * 0 ≡ at = omega arith in
      rw (here, eq-eqb (at + 1) (at + 1) refl, among_other n (at + 4) (at + 1) (λ k b e. omega (arith, e))) (or-false (eqb (byte_at s at) 0x34))
  among_at (suc n) at (suc k) l =
      let there : at + 4 * suc k ≡ at + 4 + 4 * k = omega arith in
      rw (there, ne_eqb (at + 4 + 4 * k + 1) (at + 1) (λ e. omega (arith, e))) (among_at n (at + 4) k (omega arith))

  -- none stands before the first section's code
  in_before : (n at d : ℕ) → d < at + 2 → is_statement_in s n at d ≡ false
  unfolding is_statement_in
  in_before zero at d h = refl
  in_before (suc n) at d h =
      rw (among_other (pair_at s at / 4) (at + 2) d (λ k l e. omega (arith, e))) (in_before n (at + 2 + 4 * (pair_at s at / 4)) d (omega arith))

-- ---- an instruction

keeps : View → Bool
keeps own = true
keeps (shares x) = true
keeps (nests f) = true
keeps (states a n) = false

kept_unstated : (i : Instruction) → keeps (view_of i) ≡ true → unstated i ≡ i
unfolding keeps unstated
kept_unstated i = cases (view_of i)
  where
    cases : (v : View) → keeps v ≡ true → unstated_as v i ≡ i
    cases own e = refl
    cases (shares x) e = refl
    cases (nests f) e = refl
    cases (states a n) e = differ cc

-- each row but ATOMIC's states nothing
abbrev keep_rows : List TableRow → Bool
keep_rows [] = true
keep_rows (r ∷ rs) = (eqb r.op 0x34 || keeps (view_of r.instruction)) && keep_rows rs

module _ (locks variables op a b c : ℕ) where
  lookup_keeps : (rows : List TableRow) → keep_rows rows ≡ true → eqb op 0x34 ≡ false → Instruction.is_valid (look_up locks variables op a b c rows) ≡ true
      → keeps (view_of (decoded_instruction (look_up locks variables op a b c rows))) ≡ true
  lookup_keeps [] h other valid = differ cc
  lookup_keeps (r ∷ rs) h other valid =
      let both = (and-eq-true_iff (eqb r.op 0x34 || keeps (view_of r.instruction)) (keep_rows rs)).0 h in
      cases (eqb op r.op) refl (is_right_row locks variables a b c r) both.0 (lookup_keeps rs both.1 other) valid
    where
      found : Bool → Bool → Decoded
      found same right = choose same (choose right (Valid r.instruction) Invalid) (look_up locks variables op a b c rs)

      cases : (same : Bool) → eqb op r.op ≡ same → (right : Bool) → (eqb r.op 0x34 || keeps (view_of r.instruction)) ≡ true
          → (Instruction.is_valid (look_up locks variables op a b c rs) ≡ true → keeps (view_of (decoded_instruction (look_up locks variables op a b c rs))) ≡ true)
          → Instruction.is_valid (found same right) ≡ true → keeps (view_of (decoded_instruction (found same right))) ≡ true
      cases true e true first rest v =
          or_right (eqb r.op 0x34) (keeps (view_of r.instruction)) first (rw (eqb-true op r.op e) at other)
      cases true e false first rest v = differ cc
      cases false e right first rest v = rest v

valid_is : (d : Decoded) → Instruction.is_valid d ≡ true → d ≡ Valid (decoded_instruction d)
valid_is (Valid i) e = refl
valid_is Invalid e = differ cc

-- an ATOMIC, decoded without its statement
atomic_decoded : (locks variables a b c : ℕ) → Instruction.is_valid (decode locks variables 0x34 a b c) ≡ true
    → decode locks variables 0x34 0 b c ≡ Valid (unstated (decoded_instruction (decode locks variables 0x34 a b c)))
unfolding decode unstated
atomic_decoded locks variables a b c = cases (ltb a statement_limit)
  where
    said : Bool → Decoded
    said right = choose (right && true && true) (Valid (Atomic a (b * 256 + c))) Invalid

    cases : (right : Bool) → Instruction.is_valid (said right) ≡ true → decode locks variables 0x34 0 b c ≡ Valid (unstated (decoded_instruction (said right)))
    cases true e = refl
    cases false e = differ cc

decode_unstated : (locks variables op a b c : ℕ) → Instruction.is_valid (decode locks variables op a b c) ≡ true
    → decode locks variables op (choose (eqb op 0x34) 0 a) b c ≡ Valid (unstated (decoded_instruction (decode locks variables op a b c)))
unfolding decode keeps
decode_unstated locks variables op a b c valid = cases (eqb op 0x34) refl
  where
    cases : (atomic : Bool) → eqb op 0x34 ≡ atomic
        → decode locks variables op (choose atomic 0 a) b c ≡ Valid (unstated (decoded_instruction (decode locks variables op a b c)))
    cases true e =
        let is : op ≡ 0x34 = eqb-true op 0x34 e in
        rw is (atomic_decoded locks variables a b c (rw is at valid))
    cases false e =
        let i = decoded_instruction (decode locks variables op a b c) in
        valid_is (decode locks variables op a b c) valid
        ∙ ap Valid (sym (kept_unstated i (lookup_keeps locks variables op a b c (table a b c) refl e valid)))

-- ---- code sections

instructions_unstated : (locks variables : ℕ) (s t : List ℕ) (n at : ℕ)
    → ((i : ℕ) → i < n → decode_at locks variables t (at + 4 * i) ≡ Valid (unstated (decoded_instruction (decode_at locks variables s (at + 4 * i)))))
    → instructions_at locks variables t n at ≡ map unstated (instructions_at locks variables s n at)
unfolding instructions_at
instructions_unstated locks variables s t zero at h = refl
instructions_unstated locks variables s t (suc n) at h =
    let here : at + 4 * 0 ≡ at = omega arith in
    rw (rw here at (h 0 (omega arith)))
    (ap (λ (is : List Instruction). unstated (decoded_instruction (decode_at locks variables s at)) ∷ is)
    (instructions_unstated locks variables s t n (at + 4) (λ i l.
    let there : at + 4 + 4 * i ≡ at + 4 * suc i = omega arith in
    rw there (h (suc i) (omega arith)))))

module _ (s t : List ℕ) (same_length : length t ≡ length s) where
  -- from the length field of the first of n sections on, t has the bytes of s, and 0 for each statement
  abbrev Clears : (n at : ℕ) → Type 0
  Clears n at = (d : ℕ) → at ≤ d → byte_at t d ≡ choose (is_statement_in s n at d) 0 (byte_at s d)

  module _ (n at : ℕ) (h : Clears (suc n) at) where
    pair_same : pair_at t at ≡ pair_at s at
    pair_same =
        let field : (d : ℕ) → at ≤ d → d < at + 2 → byte_at t d ≡ byte_at s d = λ d l u. h d l ∙ rw (in_before s (suc n) at d u) in
        rw (field at (omega arith) (omega arith), field (at + 1) (omega arith) (omega arith))

    -- the bytes of its code
    byte_here : (d : ℕ) → at + 2 ≤ d → d < at + 2 + 4 * count_at s at
        → byte_at t d ≡ choose (is_statement_among s (count_at s at) (at + 2) d) 0 (byte_at s d)
    unfolding is_statement_in
    byte_here d l u =
        h d (omega arith)
        ∙ ap (λ (b : Bool). choose (is_statement_among s (count_at s at) (at + 2) d || b) 0 (byte_at s d)) (in_before s n (at + 2 + 4 * count_at s at) d (omega arith))
        ∙ ap (λ (b : Bool). choose b 0 (byte_at s d)) (or-false (is_statement_among s (count_at s at) (at + 2) d))

    -- those of the sections behind it
    clears_behind : Clears n (at + 2 + 4 * count_at s at)
    unfolding is_statement_in
    clears_behind d l = h d (omega arith) ∙ rw (among_other s (count_at s at) (at + 2) d (λ k b e. omega (arith, e)))

    -- a byte of it that is not the second one of an instruction
    byte_kept : (d : ℕ) → at + 2 ≤ d → d < at + 2 + 4 * count_at s at → ((k : ℕ) → d ≢ at + 2 + 4 * k + 1) → byte_at t d ≡ byte_at s d
    byte_kept d l u other = byte_here d l u ∙ rw (among_other s (count_at s at) (at + 2) d (λ k b. other k))

    decode_here : (locks variables k : ℕ) → k < count_at s at → Instruction.is_valid (decode_at locks variables s (at + 2 + 4 * k)) ≡ true
        → decode_at locks variables t (at + 2 + 4 * k) ≡ Valid (unstated (decoded_instruction (decode_at locks variables s (at + 2 + 4 * k))))
    unfolding decode_at
    decode_here locks variables k l valid =
        let d = at + 2 + 4 * k in
        rw (
          byte_kept d (omega arith) (omega arith) (λ j e. omega (arith, e)),
          byte_here (d + 1) (omega arith) (omega arith) ∙ ap (λ (b : Bool). choose b 0 (byte_at s (d + 1))) (among_at s (count_at s at) (at + 2) k l),
          byte_kept (d + 2) (omega arith) (omega arith) (λ j e. omega (arith, e)),
          byte_kept (d + 3) (omega arith) (omega arith) (λ j e. omega (arith, e)),
        )
        (decode_unstated locks variables (byte_at s d) (byte_at s (d + 1)) (byte_at s (d + 2)) (byte_at s (d + 3)) valid)

    module _ (locks variables : ℕ) (x : SoundSection s locks variables at) where
      instructions_here : instructions_at locks variables t (count_at s at) (at + 2) ≡ map unstated (instructions_at locks variables s (count_at s at) (at + 2))
      instructions_here = instructions_unstated locks variables s t (count_at s at) (at + 2) (λ i l. decode_here locks variables i l (x.valid i l))

      section_cleared : SoundSection t locks variables at
      section_cleared = record {
        head = omega (arith, x.head);
        exact = rw pair_same x.exact;
        few = rw pair_same x.few;
        whole = rw pair_same (omega (arith, x.whole));
        valid = rw pair_same (λ i l. ap Instruction.is_valid (decode_here locks variables i l (x.valid i l)));
        nested = rw (pair_same, instructions_here) (nested_unstated 0 (instructions_at locks variables s (count_at s at) (at + 2)) [] ∙ x.nested);
      }

  module _ (locks variables : ℕ) where
    sections_cleared : (n at m : ℕ) → Clears n at → SoundSections s locks variables n at m → SoundSections t locks variables n at m
    sections_cleared zero at m h x = (x.0 ∙ sym same_length, x.1)
    sections_cleared (suc n) at m h x =
        let rest = sections_cleared n (at + 2 + 4 * count_at s at) x.0 (clears_behind n at h) x.3 in
        (x.0, section_cleared n at h locks variables x.1, rw (pair_same n at h) x.2, rw (pair_same n at h) rest)

    codes_cleared : (n at m : ℕ) → Clears n at → SoundSections s locks variables n at m
        → codes_at locks variables t n at ≡ map unstated_section (codes_at locks variables s n at)
    unfolding codes_at
    codes_cleared zero at m h x = refl
    codes_cleared (suc n) at m h x =
        rw (
          pair_same n at h,
          instructions_here n at h locks variables x.1,
          codes_cleared n (at + 2 + 4 * count_at s at) x.0 (clears_behind n at h) x.3,
        )

-- ---- the file

module _ (s : List ℕ) (l : Layout) (h : SoundFile s l) where
  clears_file : (d : ℕ) → byte_at (without_statements s) d ≡ choose (is_statement_in s l.threads (record_offset l.variables) d) 0 (byte_at s d)
  unfolding is_statement
  clears_file d =
      let count : pair_at s 3 / 6 ≡ l.variables = omega (arith, h.variable_count) in
      byte_cleared s d ∙ rw (count, h.thread_count)

  front_same : (d : ℕ) → d < record_offset l.variables → byte_at (without_statements s) d ≡ byte_at s d
  front_same d u = clears_file d ∙ rw (in_before s l.threads (record_offset l.variables) d (omega arith))

  -- both files are as long as that
  long : record_offset l.variables ≤ length (without_statements s)
  long = omega (arith, length-cleared s, h.section)

  record_same : (at : ℕ) → at + 6 ≤ record_offset l.variables → record_at l.locks l.threads (without_statements s) at ≡ record_at l.locks l.threads s at
  record_same = record_alike (without_statements s) s (record_offset l.variables) long h.section front_same l.locks l.threads

  variables_same : (n at : ℕ) → at + 6 * n ≤ record_offset l.variables
      → variables_at l.locks l.threads (without_statements s) n at ≡ variables_at l.locks l.threads s n at
  unfolding variables_at variable_at
  variables_same zero at u = refl
  variables_same (suc n) at u =
      rw (
        record_same at (omega arith),
        front_same (at + 2) (omega arith),
        front_same (at + 2 + 1) (omega arith),
        front_same (at + 2 + 2) (omega arith),
        front_same (at + 2 + 2 + 1) (omega arith),
        variables_same n (at + 6) (omega arith),
      )

  bare_sound : SoundFile (without_statements s) l
  bare_sound =
      record {
        version = front_same 0 (omega arith) ∙ h.version;
        lock_count = h.lock_count ∙ sym (front_same 1 (omega arith));
        thread_count = h.thread_count ∙ sym (front_same 2 (omega arith));
        variable_count = pair_alike (without_statements s) s (record_offset l.variables) long h.section front_same 3 (omega arith) ∙ h.variable_count;
        locks = h.locks;
        some_thread = h.some_thread;
        threads = h.threads;
        variables = h.variables;
        section = long;
        records = λ i u. ap Variable.is_valid (record_same (record_offset i) (omega arith)) ∙ h.records i u;
        sections = sections_cleared s (without_statements s) (length-cleared s) l.locks l.variables l.threads (record_offset l.variables) l.instructions
            (λ d _. clears_file d) h.sections;
      }

  bare_program : program_of (without_statements s) l ≡ unstated_program (program_of s l)
  unfolding program_of unstated_program
  bare_program =
      rw (
        variables_same l.variables records_start (omega arith),
        codes_cleared s (without_statements s) (length-cleared s) l.locks l.variables l.threads (record_offset l.variables) l.instructions
            (λ d _. clears_file d) h.sections,
      )

-- a sound file without its statements is read as it is
pub file_cleared : (s : List ℕ) (l : Layout) → reading s ≡ Ok l
    → (reading (without_statements s) ≡ Ok l) × (program_of (without_statements s) l ≡ unstated_program (program_of s l))
file_cleared s l e =
    let h = sound_file s l e in
    (file_sound (without_statements s) l (bare_sound s l h), bare_program s l h)
