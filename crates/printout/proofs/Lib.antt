-- Laws of the printout.
--     Definitions  the definitions of the printout open
--     Said         words with a blank after each, and the line of them
--     Stored       runs of stores into a buffer, and words that they lay
--     Digits       hexadecimal and decimal digits
--     Parts        the lines by index, and by the table of sections
--     Report       what stands after the report in a longer array changes no line
--     Widths       no line is longer than 42 bytes
pub mod Definitions
pub mod Said
pub mod Stored
pub mod Digits
pub mod Parts
pub mod Report
pub mod Widths
