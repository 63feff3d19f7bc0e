-- Every line of the printout, in order (the standard, "Line and bench").
use Rattle.std.specs.Prelude.{ℕ, suc, ◌+◌, ◌-◌, List, [], ◌∷◌, ◌++◌, length, get_or, take, drop, flat_map, eqb}
use Prim.Native.String.{String}
use Rattle.program.specs.Choice.{choose}
use Rattle.program.specs.Field.{byte_at}
use Rattle.program.specs.Layout.{Program, CodeSection}
use Rattle.program.specs.Limits.{instruction_size, record_offset}
use Rattle.program.specs.Refusal.{number_of, detail_of}
use Rattle.program.specs.Variable.{Variable}
use Rattle.program.specs.declared.instruction.Instruction.{Instruction}
use Rattle.program.specs.declared.instruction.Instruction.TheVariants.{Set, Copy, Add, Sub, Less, Read, Write, Take, Give, If, Else, While, Again, Atomic, End, Mulh, Lesss}
use Rattle.program.specs.declared.refusal.Refusal.{Refusal}
use Rattle.program.specs.declared.variable.Kind.{Kind}
use Rattle.program.specs.declared.variable.Kind.TheVariants.{Guarded, Own, Fixed, Open}
use Rattle.printout.specs.Text.{ascii, hex, decimal, line_of}

-- n raw bytes of the file from an offset on, with nothing between them
unfoldable pub raw : List ℕ → (at n : ℕ) → List ℕ
raw s at n = flat_map hex (take n (drop at s))

-- `r`, `v`, `k` or `t` and a number
unfoldable pub numbered : String → ℕ → List ℕ
numbered letter n = ascii letter ++ decimal n

-- a report byte's letter: "atomicity, `-` at closers"
unfoldable pub letter : ℕ → List ℕ
letter b = take 1 (drop b (ascii "-BLRAT"))

-- `01 version 1`: a field of the head
unfoldable pub head_line : List ℕ → (at : ℕ) → String → List ℕ
head_line s at name = line_of (raw s at 1 ∷ ascii name ∷ decimal (byte_at s at) ∷ [])

-- "kind (`guarded kG`, `own tG`, `fixed`, `open`)"
unfoldable pub kind_words : Kind → List (List ℕ)
kind_words (Guarded g) = ascii "guarded" ∷ numbered "k" g ∷ []
kind_words (Own g) = ascii "own" ∷ numbered "t" g ∷ []
kind_words Fixed = ascii "fixed" ∷ []
kind_words Open = ascii "open" ∷ []

-- `00 00 00000005 v0 guarded k0 5`. "A variable: number, kind .. initial value"
unfoldable pub variable_line : List ℕ → (v : ℕ) → Variable → List ℕ
variable_line s v x =
    let at = record_offset v in
    line_of (raw s at 1 ∷ raw s (at + 1) 1 ∷ raw s (at + 2) 4 ∷ numbered "v" v ∷ kind_words x.kind ++ decimal x.initial ∷ [])

unfoldable pub variable_lines : List ℕ → (v : ℕ) → List Variable → List (List ℕ)
variable_lines s v [] = []
variable_lines s v (x ∷ xs) = variable_line s v x ∷ variable_lines s (suc v) xs

-- "An ATOMIC shows the letter that it states after the distance, and nothing for 0"
unfoldable pub stated_words : (stated : ℕ) → List (List ℕ)
stated_words stated = choose (eqb stated 0) [] (letter stated ∷ [])

-- "name, its fields in byte order (r, v, k for register, variable, lock; numbers bare)"
unfoldable pub instruction_words : Instruction → List (List ℕ)
instruction_words (Set a n) = ascii "SET" ∷ numbered "r" a ∷ decimal n ∷ []
instruction_words (Copy a b) = ascii "COPY" ∷ numbered "r" a ∷ numbered "r" b ∷ []
instruction_words (Add a b c) = ascii "ADD" ∷ numbered "r" a ∷ numbered "r" b ∷ numbered "r" c ∷ []
instruction_words (Sub a b c) = ascii "SUB" ∷ numbered "r" a ∷ numbered "r" b ∷ numbered "r" c ∷ []
instruction_words (Less a b c) = ascii "LESS" ∷ numbered "r" a ∷ numbered "r" b ∷ numbered "r" c ∷ []
instruction_words (Read a v) = ascii "READ" ∷ numbered "r" a ∷ numbered "v" v ∷ []
instruction_words (Write a v) = ascii "WRITE" ∷ numbered "r" a ∷ numbered "v" v ∷ []
instruction_words (Take k) = ascii "TAKE" ∷ numbered "k" k ∷ []
instruction_words (Give k) = ascii "GIVE" ∷ numbered "k" k ∷ []
instruction_words (If a n) = ascii "IF" ∷ numbered "r" a ∷ decimal n ∷ []
instruction_words (Else n) = ascii "ELSE" ∷ decimal n ∷ []
instruction_words (While a n) = ascii "WHILE" ∷ numbered "r" a ∷ decimal n ∷ []
instruction_words (Again n) = ascii "AGAIN" ∷ decimal n ∷ []
instruction_words (Atomic a n) = ascii "ATOMIC" ∷ decimal n ∷ stated_words a
instruction_words End = ascii "END" ∷ []
instruction_words (Mulh a b c) = ascii "MULH" ∷ numbered "r" a ∷ numbered "r" b ∷ numbered "r" c ∷ []
instruction_words (Lesss a b c) = ascii "LESSS" ∷ numbered "r" a ∷ numbered "r" b ∷ numbered "r" c ∷ []

-- `20 00 00 00 0 TAKE k0 R`: the instruction at a place, its bytes at an offset, with its report byte
unfoldable pub instruction_line : List ℕ → (at place : ℕ) → Instruction → (byte : ℕ) → List ℕ
instruction_line s at place i byte =
    line_of (raw s at 1 ∷ raw s (at + 1) 1 ∷ raw s (at + 2) 1 ∷ raw s (at + 3) 1 ∷ decimal place ∷ instruction_words i ++ letter byte ∷ [])

-- the instructions from a place on, with their report
unfoldable pub code_lines : List ℕ → (at place : ℕ) → List Instruction → (report : List ℕ) → List (List ℕ)
code_lines s at place [] report = []
code_lines s at place (i ∷ is) report =
    instruction_line s at place i (get_or report 0 0) ∷ code_lines s (at + instruction_size) (suc place) is (drop 1 report)

-- `000C thread 0 code 3`, then the code; code c is thread c's. Its report is its code's bytes and one for its whole
unfoldable pub section_lines : List ℕ → (c : ℕ) → List CodeSection → (report : List ℕ) → List (List ℕ)
section_lines s c [] report = []
section_lines s c (x ∷ xs) report =
    line_of (raw s (x.start - 2) 2 ∷ ascii "thread" ∷ decimal c ∷ ascii "code" ∷ decimal (length x.code) ∷ [])
    ∷ code_lines s x.start 0 x.code report
    ++ section_lines s (suc c) xs (drop (length x.code + 1) report)

-- `thread 0 A`. "After all code, one line for each thread's whole"
unfoldable pub whole_lines : (c : ℕ) → List CodeSection → (report : List ℕ) → List (List ℕ)
whole_lines c [] report = []
whole_lines c (x ∷ xs) report =
    line_of (ascii "thread" ∷ decimal c ∷ letter (get_or report (length x.code) 0) ∷ [])
    ∷ whole_lines (suc c) xs (drop (length x.code + 1) report)

-- all lines of an accepted file with its program and report
unfoldable pub lines : List ℕ → Program → (report : List ℕ) → List (List ℕ)
lines s p report =
    head_line s 0 "version"
    ∷ head_line s 1 "locks"
    ∷ head_line s 2 "threads"
    ∷ line_of (raw s 3 2 ∷ ascii "variables" ∷ decimal (length p.variables) ∷ [])
    ∷ variable_lines s 0 p.variables
    ++ section_lines s 0 p.codes report
    ++ whole_lines 0 p.codes report

-- "`refused N at D` and a newline"
unfoldable pub refusal_line : Refusal → List ℕ
refusal_line r = line_of (ascii "refused" ∷ decimal (number_of r) ∷ ascii "at" ∷ decimal (detail_of r) ∷ [])
