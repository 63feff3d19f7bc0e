-- Instructions, codes and programs with their statements taken out, as specs/Unstated.antt takes them out of a file.
--     unstated_as, unstated   an instruction
--     unstated_code           structured code
--     unstated_section, unstated_program a program
--     Stating                 an ATOMIC, or an instruction that states nothing
use Rattle.std.specs.Prelude.{ℕ, ◌≡◌, map}
use Rattle.program.specs.Code.{Code, done, plain, choice, loop, block}
use Rattle.program.specs.Layout.{Program, CodeSection}
use Rattle.program.specs.View.{View, own, shares, nests, states, view_of}
use Rattle.program.specs.declared.instruction.Instruction.{Instruction}
use Rattle.program.specs.declared.instruction.Instruction.TheVariants.{Atomic}

-- an instruction of this view
abbrev pub unstated_as : View → Instruction → Instruction
unstated_as own i = i
unstated_as (shares x) i = i
unstated_as (nests f) i = i
unstated_as (states a n) i = Atomic 0 n

unfoldable pub unstated : Instruction → Instruction
unstated i = unstated_as (view_of i) i

-- a plain instruction states nothing
unfoldable pub unstated_code : Code → Code
unstated_code done = done
unstated_code (plain i c) = plain i (unstated_code c)
unstated_code (choice r a b c) = choice r (unstated_code a) (unstated_code b) (unstated_code c)
unstated_code (loop r a c) = loop r (unstated_code a) (unstated_code c)
unstated_code (block stated a c) = block 0 (unstated_code a) (unstated_code c)

abbrev pub unstated_section : CodeSection → CodeSection
unstated_section x = record { start = x.start; code = map unstated x.code }

unfoldable pub unstated_program : Program → Program
unstated_program p = record { locks = p.locks; variables = p.variables; threads = p.threads; codes = map unstated_section p.codes }

pub data Stating : Instruction → Type 0 where
  nothing : {i : Instruction} → unstated i ≡ i → Stating i
  something : {a n : ℕ} → Stating (Atomic a n)
