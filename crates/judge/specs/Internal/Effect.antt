-- What an instruction does in the walk over a code, as `effect_of` answers it: a second way to say `lock_set_after` and `atomicity_of`, with
-- which `proofs/Effects.antt` shows that it agrees.
--     passing         an access that is allowed
--     access_effect   a plain instruction, by the access that it makes
--     form_effect     an opener or a closer
--     effect_of       any instruction
use Rattle.std.specs.Prelude.{ℕ, true, false, not, Ok}
use Rattle.atomicity.specs.Atomicity.{by}
use Rattle.atomicity.specs.declared.Atomicity.{Atomicity}
use Rattle.program.specs.View.{Access, none, reads, writes, takes, gives, access_of, form_of, statement_of, Form}
use Rattle.program.specs.Answer.{Answer, require}
use Rattle.program.specs.Layout.{Program}
use Rattle.program.specs.View as form
use Rattle.program.specs.declared.instruction.Instruction.{Instruction}
use Rattle.program.specs.declared.refusal.Refusal.TheVariants as refusal
use Rattle.judge.specs.Discipline.{kind_at, permits, access_atomicity}
use Rattle.judge.specs.LockSet.{holds}
use Rattle.judge.specs.declared.effect.Effect.{Effect}
use Rattle.judge.specs.declared.effect.Effect.TheVariants.{Nothing, Single, Takes, Gives, Opens, Closes}
use Rattle.judge.specs.declared.frame.Part.TheVariants as part
use Rattle.judge.specs.declared.lock_set.LockSet.{LockSet}

-- a read or a write is B or A
abbrev pub passing : Atomicity → Effect
passing = by Nothing Single Single Single Single

-- or it offends the lock discipline
unfoldable pub access_effect : Program → (c d : ℕ) → Access → LockSet → Answer Effect
access_effect p c d none s = Ok Nothing
access_effect p c d (reads v) s = require (permits (kind_at p v) c s false) (refusal.Access d) (Ok (passing (access_atomicity p c v false)))
access_effect p c d (writes v a) s = require (permits (kind_at p v) c s true) (refusal.Access d) (Ok (passing (access_atomicity p c v true)))
access_effect p c d (takes k) s = require (not (holds s k)) (refusal.Taken d) (Ok (Takes k))
access_effect p c d (gives k) s = require (holds s k) (refusal.NotTaken d) (Ok (Gives k))

-- an opener or a closer, where an ATOMIC states this; a plain instruction has this effect
unfoldable pub form_effect : Form → (stated : ℕ) → (plain : Answer Effect) → Answer Effect
form_effect form.Plain stated plain = plain
form_effect (form.If a n) stated plain = Ok (Opens part.Then)
form_effect (form.Else n) stated plain = Ok Closes
form_effect (form.While a n) stated plain = Ok (Opens part.Body)
form_effect (form.Again n) stated plain = Ok Closes
form_effect (form.Atomic n) stated plain = Ok (Opens (part.Block stated))
form_effect form.End stated plain = Ok Closes

unfoldable pub effect_of : Program → (c d : ℕ) → Instruction → LockSet → Answer Effect
effect_of p c d i s = form_effect (form_of i) (statement_of i) (access_effect p c d (access_of i) s)
