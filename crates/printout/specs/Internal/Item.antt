-- The printout by its parts, as the code finds them. Internal: `proofs/Parts.antt` shows that the parts are the lines of `Line`, and no
-- public call's contract names them.
--     variables_line, thread_line, head_lines, whole_line
--                  lines by the numbers that stand in them
--     item_lines   the lines after the variables'
--     ItemAt       what a line of those shows
use Rattle.std.specs.Prelude.{ℕ, suc, ◌+◌, ◌<◌, ◌≡◌, List, [], ◌∷◌, ◌++◌, get_or}
use Rattle.program.specs.Layout.{program_of}
use Rattle.program.specs.Internal.Sections.{bytes_before}
use Rattle.program.specs.declared.layout.Layout.{Layout}
use Rattle.printout.specs.Text.{ascii, decimal, line_of}
use Rattle.printout.specs.Line.{raw, letter, head_line, section_lines, whole_lines}
use Rattle.printout.specs.declared.print.Item.{Item}
use Rattle.printout.specs.declared.print.Item.TheVariants.{Thread, Code, Whole}

-- the line of the variable section's length; of thread t, its code section's length field at an offset
unfoldable pub variables_line : List ℕ → (variables : ℕ) → List ℕ
variables_line s variables = line_of (raw s 3 2 ∷ ascii "variables" ∷ decimal variables ∷ [])

unfoldable pub thread_line : List ℕ → (at t count : ℕ) → List ℕ
thread_line s at t count = line_of (raw s at 2 ∷ ascii "thread" ∷ decimal t ∷ ascii "code" ∷ decimal count ∷ [])

-- the head's four lines
unfoldable pub head_lines : List ℕ → (variables : ℕ) → List (List ℕ)
head_lines s variables =
    head_line s 0 "version"
    ∷ head_line s 1 "locks"
    ∷ head_line s 2 "threads"
    ∷ variables_line s variables
    ∷ []

-- the lines after the variables'
unfoldable pub item_lines : List ℕ → Layout → (report : List ℕ) → List (List ℕ)
item_lines s l report = section_lines s 0 (program_of s l).codes report ++ whole_lines 0 (program_of s l).codes report

-- thread t's whole, its report byte at an index
unfoldable pub whole_line : (t from : ℕ) → (report : List ℕ) → List ℕ
whole_line t from report = line_of (ascii "thread" ∷ decimal t ∷ letter (get_or report from 0) ∷ [])

-- what line i of them shows, by how many instructions the codes have: a code has one line more than instructions
abbrev pub ItemAt : (counts : List ℕ) → (threads i : ℕ) → Item → Type 0
ItemAt counts threads i (Thread t) = (t < threads) × (i ≡ bytes_before counts t)
ItemAt counts threads i (Code t place) = (t < threads) × (place < get_or counts t 0) × (i ≡ bytes_before counts t + suc place)
ItemAt counts threads i (Whole t) = (t < threads) × (i ≡ bytes_before counts threads + t)
