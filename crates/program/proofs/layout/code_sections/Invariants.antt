-- `code_sections`: what is added so far with the sections that are left equals the whole, and the table so far with their marks the whole
-- table.
use Prim.Native.Nat.{◌*◌, ◌-◌, ◌≤◌}
use mathlib.Core.Path.{◌≡◌}
use Rattle.program.specs.Limits.{instruction_limit}
use Rattle.program.specs.Layout.{codes_at, code_sections}
use Rattle.program.specs.Internal.Marks.{marked_codes}
use Rattle.program.proofs.CodeSections.{added}
use Rattle.program.proofs.layout.code_sections.Given as goal

abbrev pub invariant-loop-t : goal.invariant-loop-t
invariant-loop-t l =
    (l.total ≤ instruction_limit * l.t)
    × (added l.total (code_sections l.limits.locks l.limits.variables l.s (l.n - l.t) l.here)
    ≡ code_sections l.limits.locks l.limits.variables l.s l.n l.initial.here)
    × (marked_codes l.t (codes_at l.limits.locks l.limits.variables l.s (l.n - l.t) l.here.at) l.writers
    ≡ marked_codes 0 (codes_at l.limits.locks l.limits.variables l.s l.n l.initial.here.at) l.initial.writers)
