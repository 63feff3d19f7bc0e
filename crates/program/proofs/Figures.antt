-- The standard's figures for the limits that specs/Limits.antt computes from others. Assumes nothing.
--     variable_section_limit_lem, code_section_limit_lem   the largest sections, in bytes
--     largest_file_size                                    the largest file
--     report_limit_lem                                     the longest report
--     thread_size_lem                                      a thread's bytes in a state
--     bench_limit_lem                                      how much bench reads
--     line_limit_lem, output_limit_lem                     the longest printout, in lines and in bytes
use mathlib.Core.Path.{◌≡◌, refl}
use Rattle.program.specs.Limits.{variable_section_limit, code_section_limit, largest_file, report_limit, thread_size, bench_limit}
use Rattle.program.specs.Internal.Bounds.{line_limit, output_limit}

-- "above 384 or 4,096"
pub variable_section_limit_lem : variable_section_limit ≡ 384
variable_section_limit_lem = refl

pub code_section_limit_lem : code_section_limit ≡ 4096
code_section_limit_lem = refl

-- "The largest file has 33,173 bytes"
pub largest_file_size : largest_file ≡ 33173
largest_file_size = refl

-- "8,200 bytes"
pub report_limit_lem : report_limit ≡ 8200
report_limit_lem = refl

-- "34 a thread"
pub thread_size_lem : thread_size ≡ 34
thread_size_lem = refl

-- "It reads at most 33,174 bytes"
pub bench_limit_lem : bench_limit ≡ 33174
bench_limit_lem = refl

-- the longest printout
pub line_limit_lem : line_limit ≡ 8276
line_limit_lem = refl

pub output_limit_lem : output_limit ≡ 397248
output_limit_lem = refl
