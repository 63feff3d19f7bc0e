-- The rows of the standard's table as src/instruction.rt has them: an enum, in the order of the table, after `Unknown` for a byte that is
-- no op code.
--     position, row_of    the number of an op code's row, from 1 on, or 0
--     rows_from, row_table
--                         ... for each byte
--     number_of           ... of a row of the enum
--     row_count           how many the enum has
--     no_row, row_in      the row of the standard's table for some fields, or what stands in its stead
--     instruction_in      ... its instruction
--     is_plain            a form is no opener's or closer's
--     is_nesting          whether a row is an opener's or a closer's
--     nesting_rows        the numbers of those rows, a bit each
--     at_distance         a form with another distance
--     row_form            the form of a row with field a and distance n
--     limit_of            the number that a right field lies below
--     row_limits          ... of each field of a row of the table
--     no_limits           what no field lies below
--     limits_of           ... of all rows, by number
--     fits                three fields below the limits of their row
use Rattle.std.specs.Prelude.{ℕ, zero, suc, ◌+◌, Bool, true, false, ◌&&◌, not, List, [], ◌∷◌, map, length, get_or, ltb, eqb}
use Rattle.program.specs.Choice.{choose}
use Rattle.program.specs.Instruction.{FieldKind, register, variable, lock, zero as zero_field, part, statement, TableRow, row as table_row, table}
use Rattle.program.specs.Limits.{register_count, statement_limit}
use Rattle.program.specs.View.{Form, form_of}
use Rattle.program.specs.View as form
use Rattle.program.specs.declared.instruction.Instruction.{Instruction}
use Rattle.program.specs.declared.instruction.Instruction.TheVariants as instruction
use Rattle.program.specs.declared.instruction.Row.{Row}
use Rattle.program.specs.declared.instruction.Row.TheVariants as row
use Rattle.program.specs.declared.field_limits.FieldLimits.{FieldLimits}

-- the number of an op code's row, where the first row has number n
abbrev pub position : (op n : ℕ) → List TableRow → ℕ
position op n [] = 0
position op n (r ∷ rs) = choose (eqb op r.op) n (position op (suc n) rs)

unfoldable pub row_of : ℕ → ℕ
row_of op = position op 1 (table 0 0 0)

unfoldable pub rows_from : (n op : ℕ) → List ℕ
rows_from zero op = []
rows_from (suc n) op = row_of op ∷ rows_from n (suc op)

unfoldable pub row_table : List ℕ
row_table = rows_from 256 0

abbrev pub number_of : Row → ℕ
number_of row.Unknown = 0
number_of row.Set = 1
number_of row.Copy = 2
number_of row.Add = 3
number_of row.Sub = 4
number_of row.Less = 5
number_of row.Read = 6
number_of row.Write = 7
number_of row.Take = 8
number_of row.Give = 9
number_of row.If = 10
number_of row.Else = 11
number_of row.While = 12
number_of row.Again = 13
number_of row.Atomic = 14
number_of row.End = 15
number_of row.Mulh = 16
number_of row.Lesss = 17

abbrev pub row_count : ℕ
row_count = 1 + length (table 0 0 0)

-- what stands in the table's stead for a byte that is no op code
abbrev pub no_row : TableRow
no_row = table_row 0 zero_field zero_field zero_field instruction.End

abbrev pub row_in : Row → (a b c : ℕ) → TableRow
row_in r a b c = get_or (no_row ∷ table a b c) (number_of r) no_row

abbrev pub instruction_in : Row → (a b c : ℕ) → Instruction
instruction_in r a b c = (row_in r a b c).instruction

abbrev pub is_plain : Form → Bool
is_plain form.Plain = true
is_plain (form.If a n) = false
is_plain (form.Else n) = false
is_plain (form.While a n) = false
is_plain (form.Again n) = false
is_plain (form.Atomic n) = false
is_plain form.End = false

-- `Unknown` is neither
abbrev pub is_nesting : Row → Bool
is_nesting r = ltb 0 (number_of r) && not (is_plain (form_of (instruction_in r 0 0 0)))

-- rows 10 to 15
abbrev pub nesting_rows : ℕ
nesting_rows = 64512

abbrev pub at_distance : (n : ℕ) → Form → Form
at_distance n form.Plain = form.Plain
at_distance n (form.If a m) = form.If a n
at_distance n (form.Else m) = form.Else n
at_distance n (form.While a m) = form.While a n
at_distance n (form.Again m) = form.Again n
at_distance n (form.Atomic m) = form.Atomic n
at_distance n form.End = form.End

-- that of END for a row that is no opener's or closer's
abbrev pub row_form : Row → (a n : ℕ) → Form
row_form r a n = choose (is_nesting r) (at_distance n (form_of (instruction_in r a 0 0))) form.End

-- a part of n is any byte
abbrev pub limit_of : (locks variables : ℕ) → FieldKind → ℕ
limit_of locks variables register = register_count
limit_of locks variables variable = variables
limit_of locks variables lock = locks
limit_of locks variables zero_field = 1
limit_of locks variables part = 256
limit_of locks variables statement = statement_limit

abbrev pub row_limits : (locks variables : ℕ) → TableRow → FieldLimits
row_limits locks variables r = record { 0 = limit_of locks variables r.a; 1 = limit_of locks variables r.b; 2 = limit_of locks variables r.c }

-- those of `Unknown`: no field lies below them
abbrev pub no_limits : FieldLimits
no_limits = record { 0 = 0; 1 = 0; 2 = 0 }

unfoldable pub limits_of : (locks variables : ℕ) → List FieldLimits
limits_of locks variables = no_limits ∷ map (row_limits locks variables) (table 0 0 0)

abbrev pub fits : FieldLimits → (a b c : ℕ) → Bool
fits l a b c = ltb a l.0 && ltb b l.1 && ltb c l.2
