-- The definitions of the printout open, those of reading among them, for theorems by computation. Assumes nothing.
use Rattle.program.proofs.Definitions.{reading_definitions}
use Rattle.printout.specs.Line.{raw, numbered, letter, head_line, kind_words, variable_line, variable_lines, stated_words, instruction_words, instruction_line, code_lines, section_lines, whole_lines, lines, refusal_line}
use Rattle.printout.specs.Text.{ascii, hex_digit, hex, digits, decimal, spaced, line_of}

unfoldable pub printing_definitions : Unit {0}
unfolding reading_definitions ascii hex_digit hex digits decimal spaced line_of raw numbered letter head_line kind_words variable_line variable_lines stated_words instruction_words instruction_line code_lines section_lines whole_lines lines refusal_line
printing_definitions = tt
