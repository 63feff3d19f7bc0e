-- Laws that belong to no one function.
--     Definitions  the definitions of running open
--     Names        how often a list names a thread
--     Sums         every entry is counted once, for its thread
--     Block        where a thread stands inside a block
--     Fields       what a sound file's instruction reaches, and where it goes
--     Kept         the state in arrays, through one entry
--     Effect       what an instruction does, as the code says it
--     Nearest      MULH's rounding in the standard's words
--     Products     the tables of "Signed hundredths"
--     Ends         a thread that is not at its end was never idle
--     Entry        a run after one entry
--     Between      the loop over the entries of a list
--     Threads      threads by two lists, places and registers
--     Start        the initial values, as a loop finds them; the start in arrays
--     StateBytes   the state's bytes, as loops write them
--     Shape        how long the lists of a state are, and how many bytes it has
--     Unstated     a program with its statements taken out runs alike
pub mod Definitions
pub mod Names
pub mod Sums
pub mod Block
pub mod Fields
pub mod Kept
pub mod Effect
pub mod Nearest
pub mod Products
pub mod Ends
pub mod Entry
pub mod Between
pub mod Threads
pub mod Start
pub mod StateBytes
pub mod Shape
pub mod Unstated
