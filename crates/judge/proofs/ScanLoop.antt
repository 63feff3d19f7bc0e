-- The loop of `walk_code`: what holds at its head, and how each instruction carries that on. Assumes nothing.
--     Matches                        the open frames are of the parts that the open entries open, and their openers' bytes in the report
--     other_of, whole_of             what is so after a closer, by how its part ends
--     Opener                         an effect that opens a part
--     Carries, carries               what is so of what is carried on from an instruction
--     instructions_from, scan_from, code_scan, code_scanned
--                                    the instructions from an offset on, the scan from a place on, and the whole code's, without its end and with it
--     Scanning                       what holds at the loop's head
--     scanning_start                 ... where the loop begins
--     refused_here, refused_step     a refusal of an instruction is one of the code
--     access_below, access_within    what an instruction accesses is below its count, and within the limits
--     ready                          what its effect asks of what is carried
--     scanning_next                  ... after an instruction, by what is carried on from it
--     scanning_end                   the code's end
use Rattle.std.proofs.Common.{ℕ, suc, ◌+◌, ◌*◌, ◌-◌, ◌≤◌, ◌<◌, ◌≡◌, refl, sym, ◌∙◌, ap, ap₂, subst, Bool, true, false, not, List, [], ◌∷◌, add-one, arith, length, get_or, set, drop, length-set, None, Ok, Err}
use Rattle.atomicity.specs.Atomicity.{report_byte, closure, join}
use Rattle.atomicity.specs.declared.Atomicity.{Atomicity}
use Rattle.program.specs.View.{access_of}
use Rattle.program.specs.Answer.{Answer, ◌>>=◌, require}
use Rattle.program.specs.Instruction.{decode_at, decoded_instruction}
use Rattle.program.specs.Layout.{program_of, instructions_at}
use Rattle.program.specs.Limits.{entry_limit, lock_limit, variable_limit}
use Rattle.program.specs.Nesting.{first_broken}
use Rattle.program.specs.Internal.Sound.{AccessBelow}
use Rattle.program.specs.Internal.WellFormed.{Passes}
use Rattle.program.specs.declared.instruction.Instruction.{Instruction}
use Rattle.program.specs.declared.layout.Layout.{Layout}
use Rattle.program.specs.declared.nesting.Entry.{Entry}
use Rattle.program.specs.declared.nesting.Entry.TheVariants as entry
use Rattle.program.specs.declared.refusal.Refusal.{Refusal}
use Rattle.program.specs.declared.refusal.Refusal.TheVariants.{SetsDiffer, NotAtomic, FalseStatement}
use Rattle.program.proofs.Answer.{Holds, holds_fine}
use Rattle.program.proofs.Contents.{length-instructions}
use Rattle.program.proofs.Decode.{instruction_access, access_wider}
use Rattle.program.proofs.Differ.{differ}
use Rattle.judge.specs.Judging.{is_top, states_truly}
use Rattle.judge.specs.LockSet.{same}
use Rattle.judge.specs.Internal.Effect.{effect_of}
use Rattle.judge.specs.Internal.Scan.{Carried, no_frame, end_of, closed, opened, applied, scan, starting, scan_code, ending, Ready}
use Rattle.judge.specs.declared.effect.Effect.{Effect}
use Rattle.judge.specs.declared.effect.Effect.TheVariants as effect
use Rattle.judge.specs.declared.frame.Closed.{Closed}
use Rattle.judge.specs.declared.frame.Closed.TheVariants.{Other, Whole}
use Rattle.judge.specs.declared.frame.Frame.{Frame}
use Rattle.judge.specs.declared.frame.Part.{Part}
use Rattle.judge.specs.declared.lock_set.LockSet.{LockSet}
use Rattle.judge.proofs.Effects.{PartOf, of_then, of_else, of_loop, of_block, AfterCloser, Opened, StepOf, step_of}

-- ---- frames and entries

-- the open frames are of the parts that the open entries open, and their openers' bytes stand in a report of n bytes
pub data Matches (n : ℕ) : List Entry → List Frame → Type 0 where
  match_none : Matches n [] []
  match_more : {e : Entry} {es : List Entry} {f : Frame} {fs : List Frame} → PartOf e f.part → f.opener < n → Matches n es fs → Matches n (e ∷ es) (f ∷ fs)

matches_length : {n : ℕ} {es : List Entry} {fs : List Frame} → Matches n es fs → length es ≡ length fs
matches_length match_none = refl
matches_length (match_more e b m) = ap suc (matches_length m)

below_match : {n : ℕ} {e : Entry} {es : List Entry} {f : Frame} {fs : List Frame} → Matches n (e ∷ es) (f ∷ fs) → Matches n es fs
below_match (match_more k b m) = m

innermost_part : {n : ℕ} {e : Entry} {es : List Entry} {f : Frame} {fs : List Frame} → Matches n (e ∷ es) (f ∷ fs) → PartOf e f.part
innermost_part (match_more k b m) = k

-- a part that ends with its other part to come was opened by an IF, and one that ends its construct was not
module _ (q : ℕ) (is : List Instruction) (d : ℕ) (f : Frame) (s : LockSet) (a : Atomicity) where
  -- a part that may be refused, and otherwise ends its construct, has no other part to come
  no_other : (ok : Bool) (r : Refusal) (m : Answer Closed) → (m ≡ Ok Other → ⊥) → require ok r m ≡ Ok Other → ⊥
  no_other true r m n e = n e
  no_other false r m n e = differ cc

  ended_no_other : (b : Atomicity) → ◌≡◌ {A = Answer Closed} (Ok (Whole b)) (Ok Other) → ⊥
  ended_no_other b e = differ cc

  other_of : {e : Entry} {x : Part} → PartOf e x → (es : List Entry) → end_of x d f s a ≡ Ok Other → AfterCloser q is s e es → (m : ℕ) × Passes (suc q) is (entry.Else m ∷ es)
  other_of of_then es h next = next
  other_of (of_else {first = first}) es h next = absurd (no_other (same f.locks s) _ _ (ended_no_other (join first a)) h)
  other_of of_loop es h next = absurd (no_other (same f.locks s) _ _ (ended_no_other (closure a)) h)
  other_of (of_block {stated = stated}) es h next = absurd (no_other (not (is_top a)) _ _ (no_other (states_truly stated a) _ _ (ended_no_other a)) h)

  whole_of : {e : Entry} {x : Part} → PartOf e x → (es : List Entry) (b : Atomicity) → end_of x d f s a ≡ Ok (Whole b) → AfterCloser q is s e es → Passes (suc q) is es
  whole_of of_then es b h next = differ cc
  whole_of of_else es b h next = next
  whole_of of_loop es b h next = next
  whole_of of_block es b h next = next

-- an effect that opens a part
pub data Opener (e : Effect) : Part → Type 0 where
  opens : {q : Part} → e ≡ effect.Opens q → Opener e q

-- ---- what is carried on

-- from the instruction at place p, before the instructions `is`, where what is carried is x and the entries are es
module _ (n p : ℕ) (is : List Instruction) (x : Carried) (es : List Entry) (match : Matches n es x.frames) where
  pub record Carries (y : Carried) : Type 0 where
    pub report_length : length y.report ≡ length x.report
    pub entries : List Entry
    pub nested : Passes (suc p) is entries
    pub matches : Matches n entries y.frames

  -- a closer, by the part of the innermost frame
  module _ (d at : ℕ) (below : List Entry) (f : Frame) (fs : List Frame) (inside : f.opener < n) (rest : Matches n below fs) where
    abbrev ended : Closed → Carried
    ended b = closed b f x.locks x.sofar fs (set x.report at 0)

    whole_carries : (b : Atomicity) → Passes (suc p) is below → Carries (ended (Whole b))
    whole_carries b next = record {
      report_length = length-set (set x.report at 0) f.opener (report_byte b) ∙ length-set x.report at 0;
      entries = below;
      nested = next;
      matches = rest;
    }

    required_carries : (ok : Bool) (r : Refusal) (m : Answer Closed) → Holds Carries (m >>= λ b. Ok (ended b)) → Holds Carries (require ok r m >>= λ b. Ok (ended b))
    required_carries true r m h = h
    required_carries false r m h = tt

    part_carries : {e : Entry} {w : Part} → PartOf e w → AfterCloser p is x.locks e below → Holds Carries (end_of w d f x.locks x.sofar >>= λ b. Ok (ended b))
    part_carries of_then next = record {
      report_length = length-set x.report at 0;
      entries = entry.Else next.0 ∷ below;
      nested = next.1;
      matches = match_more of_else inside rest;
    }
    part_carries (of_else {first = first}) next = required_carries (same f.locks x.locks) (SetsDiffer d) _ (whole_carries (join first x.sofar) next)
    part_carries of_loop next = required_carries (same f.locks x.locks) (SetsDiffer d) _ (whole_carries (closure x.sofar) next)
    part_carries (of_block {stated = stated}) next =
        required_carries (not (is_top x.sofar)) (NotAtomic d) _
        (required_carries (states_truly stated x.sofar) (FalseStatement d) _ (whole_carries x.sofar next))

  closer_carries : (d at : ℕ) (e : Entry) (below : List Entry) (fs : List Frame) → Matches n (e ∷ below) fs → AfterCloser p is x.locks e below
      → let f = get_or fs 0 no_frame in
      Holds Carries (end_of f.part d f x.locks x.sofar >>= λ b. Ok (closed b f x.locks x.sofar (drop 1 fs) (set x.report at 0)))
  closer_carries d at _ _ _ (match_more {e = e} {es = below} {f = f} {fs = fs} q inside rest) next = part_carries d at below f fs inside rest q next

  plain_carries : (y : Carried) → length y.report ≡ length x.report → y.frames ≡ x.frames → Passes (suc p) is es → Carries y
  plain_carries y e same_frames next = record {
    report_length = e;
    entries = es;
    nested = next;
    matches = subst (λ (fs : List Frame). Matches n es fs) (sym same_frames) match;
  }

  pub carries : (d at : ℕ) → at < n → (e : Effect) → StepOf p is x.locks es e → Holds Carries (applied e d at x)
  unfolding applied
  carries d at inside effect.Nothing t = plain_carries _ (length-set x.report at 1) refl t
  carries d at inside effect.Single t = plain_carries _ (length-set x.report at 4) refl t
  carries d at inside (effect.Takes j) t = plain_carries _ (length-set x.report at 3) refl t.2
  carries d at inside (effect.Gives j) t = plain_carries _ (length-set x.report at 2) refl t.2
  carries d at inside (effect.Opens q) t = record { report_length = refl; entries = t.0 ∷ es; nested = t.3; matches = match_more t.2 inside match }
  carries d at inside effect.Closes t = closer_carries d at t.0 t.1 x.frames (subst (λ (u : List Entry). Matches n u x.frames) t.2 match) t.3

-- ---- what holds at the loop's head

-- code c, whose `count` instructions begin at `start`, its report written from `at` on
module _ (s : List ℕ) (l : Layout) (c start count at : ℕ) (report₀ : List ℕ) where
  -- the instructions from an offset on
  abbrev pub instructions_from : ℕ → ℕ → List Instruction
  instructions_from n d = instructions_at l.locks l.variables s n d

  -- the scan from a place on
  abbrev pub scan_from : ℕ → Carried → Answer Carried
  scan_from p x = scan (program_of s l) c (start + 4 * p) (at + p) x (instructions_from (count - p) (start + 4 * p))

  -- the scan of the whole code
  abbrev pub code_scan : Answer Carried
  code_scan = scan (program_of s l) c start at (starting report₀) (instructions_from count start)

  -- the scan of the whole code, and then its end
  abbrev pub code_scanned : Answer (List ℕ)
  code_scanned = scan_code (program_of s l) c at report₀ (record { start = start; code = instructions_from count start })

  scanned_is : code_scanned ≡ (code_scan >>= λ x. ending (start + 4 * count) (at + count) x)
  unfolding scan_code
  scanned_is = rw (length-instructions l.locks l.variables s count start)

  -- a refusal of the scan is one of the code
  pub refused_scan : (r : Refusal) → Err r ≡ code_scan → Err r ≡ code_scanned
  refused_scan r e = rw (scanned_is, ← e)

  -- before the instruction at place p; scanning from there is the whole scan
  pub record Scanning (x : Carried) (p : ℕ) : Type 0 where
    pub report_length : length x.report ≡ length report₀
    pub entries : List Entry
    pub nested : Passes p (instructions_from (count - p) (start + 4 * p)) entries
    pub matches : Matches (length report₀) entries x.frames
    pub rest_is_whole : scan_from p x ≡ code_scan

  pub scanning_start : first_broken 0 (instructions_from count start) [] ≡ None → Scanning (starting report₀) 0
  unfolding starting
  scanning_start well_nested =
      let e₁ : start + 4 * 0 ≡ start = omega arith in
      let e₂ : at + 0 ≡ at = omega arith in
      let e₃ : count - 0 ≡ count = omega arith in
      record {
        report_length = refl;
        entries = [];
        nested = rw (e₁, e₃) well_nested;
        matches = match_none;
        rest_is_whole = rw (e₁, e₂, e₃);
      }

  -- the instruction at place p, where what is carried is x
  module _ (x : Carried) (p : ℕ) (k : Scanning x p) (more : p < count) (few_locks : l.locks ≤ lock_limit) (few_variables : l.variables ≤ variable_limit)
      (i : Instruction) (is_i : i ≡ decoded_instruction (decode_at l.locks l.variables s (start + 4 * p))) where
    pub access_below : AccessBelow l.locks l.variables (access_of i)
    access_below = rw is_i (instruction_access l.locks l.variables s (start + 4 * p))

    pub access_within : AccessBelow lock_limit variable_limit (access_of i)
    access_within = access_wider few_locks few_variables (access_of i) access_below

    -- the instructions after it
    abbrev after : List Instruction
    after = instructions_from (count - (p + 1)) (start + 4 * (p + 1))

    -- what it does
    abbrev pub effect_here : Answer Effect
    effect_here = effect_of (program_of s l) c (start + 4 * p) i x.locks

    instructions_here : instructions_from (count - p) (start + 4 * p) ≡ i ∷ after
    unfolding instructions_at
    instructions_here =
        let e₁ : count - p ≡ suc (count - (p + 1)) = omega arith in
        let e₂ : start + 4 * (p + 1) ≡ start + 4 * p + 4 = omega arith in
        rw (e₁, e₂, is_i)

    step_here : Holds (StepOf p after x.locks k.entries) effect_here
    step_here = step_of p after x.locks (program_of s l) c (start + 4 * p) i k.entries access_within (rw instructions_here at k.nested)

    -- scanning the instruction and then the rest is the whole scan
    here_then_rest : (effect_here >>= λ e. applied e (start + 4 * p) (at + p) x >>= λ y. scan_from (p + 1) y) ≡ code_scan
    unfolding scan
    here_then_rest =
        let e₂ : start + 4 * (p + 1) ≡ start + 4 * p + 4 = omega arith in
        let e₃ : at + (p + 1) ≡ suc (at + p) = omega arith in
        ap₂ (λ (d n : ℕ). effect_here >>= λ e. applied e (start + 4 * p) (at + p) x >>= λ y. scan (program_of s l) c d n y after) e₂ e₃
        ∙ rw instructions_here at k.rest_is_whole

    pub refused_here : (r : Refusal) → (AccessBelow l.locks l.variables (access_of i) → Err r ≡ effect_here) → Err r ≡ code_scanned
    refused_here r h = let e = h access_below in refused_scan r (rw (← e) at here_then_rest)

    module _ (e : Effect) (said : AccessBelow l.locks l.variables (access_of i) → Ok e ≡ effect_here) where
      is_e : Ok e ≡ effect_here
      is_e = said access_below

      step : StepOf p after x.locks k.entries e
      step = holds_fine _ effect_here e step_here (sym is_e)

      pub refused_step : (r : Refusal) → Err r ≡ applied e (start + 4 * p) (at + p) x → Err r ≡ code_scanned
      refused_step r h = refused_scan r (rw (← is_e, ← h) at here_then_rest)

      -- an opener
      opened_step : (q : Part) → Opener e q → Opened p after x.locks k.entries q
      opened_step q (opens h) = subst (StepOf p after x.locks k.entries) h step

      opened_goes : (q : Part) → Opener e q → applied e (start + 4 * p) (at + p) x ≡ Ok (opened q (at + p) x)
      unfolding applied
      opened_goes q (opens h) = rw h

      pub opens_room : (q : Part) → Opener e q → length x.frames < entry_limit
      opens_room q h = omega (arith, (opened_step q h).1, matches_length k.matches)

      pub ready : Ready e x
      ready = ready_for e step
        where
          closer_ready : (e : Entry) (es : List Entry) (fs : List Frame) → Matches (length report₀) (e ∷ es) fs
              → (0 < length fs) × ((get_or fs 0 no_frame).opener < length x.report)
          closer_ready _ _ _ (match_more q b m) = (omega arith, rw k.report_length b)

          ready_for : (e : Effect) → StepOf p after x.locks k.entries e → Ready e x
          ready_for effect.Nothing t = tt
          ready_for effect.Single t = tt
          ready_for (effect.Takes j) t = (t.0, t.1)
          ready_for (effect.Gives j) t = (t.0, t.1)
          ready_for (effect.Opens q) t = omega (arith, t.1, matches_length k.matches)
          ready_for effect.Closes t = closer_ready t.0 t.1 x.frames (subst (λ (es : List Entry). Matches (length report₀) es x.frames) t.2 k.matches)

      pub scanning_next : at + p < length report₀ → (y : Carried) → Ok y ≡ applied e (start + 4 * p) (at + p) x → Scanning y (p + 1)
      scanning_next inside y h =
          let n = length report₀ in
          let z = holds_fine _ (applied e (start + 4 * p) (at + p) x) y (carries n p after x k.entries k.matches (start + 4 * p) (at + p) inside e step) (sym h) in
          record {
            report_length = z.report_length ∙ k.report_length;
            entries = z.entries;
            nested = subst (λ (q : ℕ). Passes q after z.entries) (sym (add-one p)) z.nested;
            matches = z.matches;
            rest_is_whole = rw (← is_e, ← h) at here_then_rest;
          }

  -- the code's end
  pub scanning_end : (x : Carried) (p : ℕ) → Scanning x p → count ≤ p → ending (start + 4 * count) (at + count) x ≡ code_scanned
  unfolding instructions_at scan
  scanning_end x p k none =
      let e : count - p ≡ 0 = omega arith in
      rw (scanned_is, ← k.rest_is_whole, e)
