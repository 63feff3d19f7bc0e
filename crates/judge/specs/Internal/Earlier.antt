-- The rule for open variables in the standard's version 1.0, to say what version 1.1 changed ("Versions": "a READ of an open variable is B if
-- no other thread's code has a WRITE of it; in 1.0 it was A"). All else is as it is now, statements included, which 1.0 did not know.
--     writes_below   WRITEs of the variables below n
--     with_writer    a program with a code more, which writes every variable
--     judge_before   judging by the earlier rule: each code beside such a writer
use Rattle.std.specs.Prelude.{ℕ, zero, suc, List, [], ◌∷◌, ◌++◌, length}
use Rattle.program.specs.Answer.{Answer}
use Rattle.program.specs.Layout.{Program}
use Rattle.program.specs.declared.instruction.Instruction.{Instruction}
use Rattle.program.specs.declared.instruction.Instruction.TheVariants as instruction
use Rattle.judge.specs.Judging.{judge_codes}

unfoldable pub writes_below : ℕ → List Instruction
writes_below zero = []
writes_below (suc n) = instruction.Write 0 n ∷ writes_below n

unfoldable pub with_writer : Program → Program
with_writer p = record {
  locks = p.locks;
  variables = p.variables;
  threads = p.threads;
  codes = p.codes ++ record { start = 0; code = writes_below (length p.variables) } ∷ [];
}

-- the program's own codes, "threads in order"
unfoldable pub judge_before : Program → Answer (List ℕ)
judge_before p = judge_codes (with_writer p) 0 p.codes
