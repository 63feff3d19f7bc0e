-- Judging as one walk over flat code, with a stack of open frames; what the code of src/ does. A second definition: the
-- rules are `Judging`'s, and `proofs/Scanning.antt` proves that the two agree.
--     Carried, carried          what the walk carries
--     no_frame, opened_frame, other_part
--                               frames
--     ends_alike, block_end, end_of
--                               how a part ends
--     closed, opened, applied   what is carried on from a closer, from an opener, and from any effect
--     scan                      the instructions from one on
--     starting, ending          where a code begins and ends
--     scan_code, scan_codes     a code; the codes from one on
--     seen, Ready               what the code's walk carries, and what it asks of it before an effect
--     left_by                   what is left where the code answers so
use Rattle.std.specs.Prelude.{ℕ, suc, ◌+◌, ◌*◌, ◌<◌, ◌≡◌, true, false, not, List, [], ◌∷◌, Ok, Err, length, get_or, set, drop}
use Rattle.atomicity.specs.Atomicity.{report_byte, composition, join, closure}
use Rattle.atomicity.specs.declared.Atomicity.{Atomicity}
use Rattle.atomicity.specs.declared.Atomicity.TheVariants as atomicity
use Rattle.program.specs.Answer.{Answer, ◌>>=◌, require}
use Rattle.program.specs.Layout.{Program, CodeSection}
use Rattle.program.specs.Limits.{instruction_size, lock_limit, entry_limit}
use Rattle.program.specs.declared.instruction.Instruction.{Instruction}
use Rattle.program.specs.declared.refusal.Refusal.TheVariants.{SetsDiffer, NotAtomic, FalseStatement}
use Rattle.judge.specs.Judging.{is_top, states_truly}
use Rattle.judge.specs.LockSet.{empty, holds, same, with_lock, without_lock}
use Rattle.judge.specs.Internal.Effect.{effect_of}
use Rattle.judge.specs.declared.effect.Effect.{Effect}
use Rattle.judge.specs.declared.effect.Effect.TheVariants as effect
use Rattle.judge.specs.declared.frame.Closed.{Closed}
use Rattle.judge.specs.declared.frame.Closed.TheVariants.{Other, Whole}
use Rattle.judge.specs.declared.frame.Frame.{Frame}
use Rattle.judge.specs.declared.frame.Part.{Part}
use Rattle.judge.specs.declared.frame.Part.TheVariants.{Then, Else, Body, Block}
use Rattle.judge.specs.declared.lock_set.LockSet.{LockSet}
use Rattle.judge.specs.declared.walk.Walk.{Walk}

-- what the walk carries: the lock set; the atomicity of what was passed of the innermost part; the open frames, innermost first; the
-- report's buffer
pub record Carried : Type 0 where
  pub locks : LockSet
  pub sofar : Atomicity
  pub frames : List Frame
  pub report : List ℕ

abbrev pub carried : LockSet → Atomicity → List Frame → List ℕ → Carried
carried s a fs report = record { locks = s; sofar = a; frames = fs; report = report }

-- Frames

-- the frame that an opener opens, whose byte stands at `at` in the report
abbrev pub opened_frame : Part → (at : ℕ) → LockSet → Atomicity → Frame
opened_frame part at s a = record { part = part; opener = at; locks = s; before = a }

-- a frame that nothing reads
unfoldable pub no_frame : Frame
no_frame = opened_frame Body 0 empty atomicity.Both

-- the frame of an IF's other part, where the then part ends with the lock set s and the atomicity a
abbrev pub other_part : Frame → LockSet → Atomicity → Frame
other_part f s a = record { part = Else a; opener = f.opener; locks = s; before = f.before }

-- The closer at file offset d of the part that the frame f is of, at the lock set s and the atomicity a of the part

-- an IF's END and AGAIN: both parts "must end with equal sets"; "A WHILE's body must end with the set it began with". The construct's
-- atomicity is b
abbrev pub ends_alike : (d : ℕ) → Frame → LockSet → (b : Atomicity) → Answer Closed
ends_alike d f s b = require (same f.locks s) (SetsDiffer d) (Ok (Whole b))

-- an ATOMIC's END: "ATOMIC has its body's atomicity, which must not be T"; "A stated value must be exactly the one worked out"
abbrev pub block_end : (stated d : ℕ) → Atomicity → Answer Closed
block_end stated d a = require (not (is_top a)) (NotAtomic d) (require (states_truly stated a) (FalseStatement d) (Ok (Whole a)))

abbrev pub end_of : Part → (d : ℕ) → Frame → LockSet → Atomicity → Answer Closed
end_of Then d f s a = Ok Other
end_of (Else first) d f s a = ends_alike d f s (join first a)
end_of Body d f s a = ends_alike d f s (closure a)
end_of (Block stated) d f s a = block_end stated d a

-- The walk

-- what is carried on where the part of frame f ends so, with the other frames fs: "Both parts of an IF start with the set at the IF";
-- "the whole construct's at its opener"
abbrev pub closed : Closed → Frame → LockSet → Atomicity → List Frame → List ℕ → Carried
closed Other f s a fs report = carried f.locks atomicity.Both (other_part f s a ∷ fs) report
closed (Whole b) f s a fs report = carried s (composition f.before b) fs (set report f.opener (report_byte b))

-- ... where an opener whose byte stands at `at` opens a part
abbrev pub opened : Part → (at : ℕ) → Carried → Carried
opened part at x = carried x.locks atomicity.Both (opened_frame part at x.locks x.sofar ∷ x.frames) x.report

-- what is carried on from an instruction at file offset d whose byte stands at `at`
unfoldable pub applied : Effect → (d at : ℕ) → Carried → Answer Carried
applied effect.Nothing d at x = Ok (carried x.locks x.sofar x.frames (set x.report at 1))
applied effect.Single d at x = Ok (carried x.locks (composition x.sofar atomicity.Atomic) x.frames (set x.report at 4))
applied (effect.Takes k) d at x = Ok (carried (with_lock x.locks k) (composition x.sofar atomicity.Right) x.frames (set x.report at 3))
applied (effect.Gives k) d at x = Ok (carried (without_lock x.locks k) (composition x.sofar atomicity.Left) x.frames (set x.report at 2))
applied (effect.Opens part) d at x = Ok (opened part at x)
applied effect.Closes d at x =
    let f = get_or x.frames 0 no_frame in
    end_of f.part d f x.locks x.sofar >>= λ b. Ok (closed b f x.locks x.sofar (drop 1 x.frames) (set x.report at 0))

-- code c from the instruction at file offset d on, whose byte stands at `at` in the report
unfoldable pub scan : Program → (c d at : ℕ) → Carried → List Instruction → Answer Carried
scan p c d at x [] = Ok x
scan p c d at x (i ∷ is) = do
  e ← effect_of p c d i x.locks
  y ← applied e d at x
  scan p c (d + instruction_size) (suc at) y is

-- what is carried where a code begins
unfoldable pub starting : List ℕ → Carried
starting report = carried empty atomicity.Both [] report

-- a code's end: "A thread's code must end with none"; "then a byte for the thread's whole code", at `at`
unfoldable pub ending : (d at : ℕ) → Carried → Answer (List ℕ)
ending d at x = require (same x.locks empty) (SetsDiffer d) (Ok (set x.report at (report_byte x.sofar)))

-- code c, whole, its report laid over the buffer from `at` on
unfoldable pub scan_code : Program → (c at : ℕ) → List ℕ → CodeSection → Answer (List ℕ)
scan_code p c at report section = do
  x ← scan p c section.start at (starting report) section.code
  ending (section.start + instruction_size * length section.code) (at + length section.code) x

-- the codes from c on, their reports laid over the buffer from `at` on
unfoldable pub scan_codes : Program → (c at : ℕ) → List ℕ → List CodeSection → Answer (List ℕ)
scan_codes p c at report [] = Ok report
scan_codes p c at report (section ∷ sections) = do
  report' ← scan_code p c at report section
  scan_codes p (suc c) (at + length section.code + 1) report' sections

-- The walk of src/

-- what it carries, with the report's buffer beside it
abbrev pub seen : Walk → List ℕ → Carried
seen w report = carried w.locks w.sofar w.frames report

-- what is so of what is carried before an effect: a lock that is taken is not in the set, one that is given is, there is room for an
-- opener's frame, and a closer has a frame, whose opener's byte is in the report. Reading has seen to the last two
abbrev pub Ready : Effect → Carried → Type 0
Ready effect.Nothing x = Unit {0}
Ready effect.Single x = Unit {0}
Ready (effect.Takes k) x = (k < lock_limit) × (holds x.locks k ≡ false)
Ready (effect.Gives k) x = (k < lock_limit) × (holds x.locks k ≡ true)
Ready (effect.Opens part) x = length x.frames < entry_limit
Ready effect.Closes x = (0 < length x.frames) × ((get_or x.frames 0 no_frame).opener < length x.report)

-- what is left where a call ends so: the value, or the refusal
abbrev pub left_by : {A : Type 0} → Answer (Unit {0}) → A → Answer A
left_by (Ok done) x = Ok x
left_by (Err r) x = Err r
