-- Nesting passes exactly for the flat writing of well formed code that is at most 16 deep (the standard, "The file": nesting; the scan
-- of `Nesting` and the trees of `Code` say the same).
-- Assumes nothing.
--     writes_structured   instructions write out one code at most
--     nested_flat         from the scan to the code
--     flat_nested         from the code to the scan
--     nested_exactly      both
use Prim.Native.Nat.{◌≤◌}
use mathlib.Core.Path.{◌≡◌, sym, ap, ◌∙◌, subst}
use mathlib.Core.Logic.{◌↔◌}
use mathlib.Core.List.{List, []}
use Rattle.std.specs.Prelude.{None}
use Rattle.program.specs.declared.instruction.Instruction.{Instruction}
use Rattle.program.specs.Nesting.{first_broken}
use Rattle.program.specs.Code.{Code, structured}
use Rattle.program.specs.Limits.{entry_limit}
use Rattle.program.specs.Internal.WellFormed.{flat, WellFormed, depth, Writes}
use Rattle.program.proofs.StructureFlat.{structured_flat}
use Rattle.program.proofs.StructureParse.{read_nested}
use Rattle.program.proofs.StructureScan.{scan_all}

-- the only code that instructions write out is the one read from them
pub writes_structured : {is : List Instruction} {c : Code} → Writes is c → c ≡ structured is
writes_structured {c = c} w = sym (structured_flat c w.well_formed) ∙ ap structured w.flat_is

-- instructions whose nesting the scan passes write out the code read from them
pub nested_flat : (is : List Instruction) → first_broken 0 is [] ≡ None → Writes is (structured is)
nested_flat is h =
    let (c, w) = read_nested is h in
    subst (Writes is) (writes_structured w) w

-- the scan passes the flat writing of well formed code that is at most 16 deep
pub flat_nested : (c : Code) → WellFormed c → depth c ≤ entry_limit → first_broken 0 (flat c) [] ≡ None
flat_nested = scan_all

pub nested_exactly : (is : List Instruction) → (first_broken 0 is [] ≡ None) ↔ Writes is (structured is)
nested_exactly is =
    (nested_flat is, λ w. subst (λ (is : List Instruction). first_broken 0 is [] ≡ None) w.flat_is (flat_nested (structured is) w.well_formed w.shallow))
