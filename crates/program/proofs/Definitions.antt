-- The definitions of reading open, for theorems by computation: `unfolding reading_definitions` unfolds each name below. Assumes nothing.
use Rattle.program.specs.View.{access_of, form_of, statement_of}
use Rattle.program.specs.Choice.{first_bad}
use Rattle.program.specs.Code.{size, else_distance, structure, structured}
use Rattle.program.specs.Field.{present, byte_field, pair_field, section}
use Rattle.program.specs.Instruction.{decode, decode_at}
use Rattle.program.specs.Layout.{instructions_at, variables_at, codes_at, code_of, program_of, variable_section, code_section, code_sections, fields, reading}
use Rattle.program.specs.Nesting.{named, unnamed, opening, passing, at_else, at_again, at_end, nest, at_code_end, first_broken}
use Rattle.program.specs.Unstated.{is_statement_among, is_statement_in, is_statement, cleared_from, without_statements}
use Rattle.program.specs.Variable.{recorded, record_at, variable_at}
use Rattle.program.specs.Writers.{has_write, written_from, written_by_other}

unfoldable pub reading_definitions : Unit {0}
unfolding first_bad present byte_field pair_field section recorded record_at variable_at decode decode_at form_of access_of statement_of named unnamed opening passing at_else at_again at_end nest at_code_end first_broken instructions_at variables_at codes_at code_of program_of variable_section code_section code_sections fields reading has_write written_from written_by_other size else_distance structure structured is_statement_among is_statement_in is_statement cleared_from without_statements
reading_definitions = tt
