-- What only proofs and the contracts of inner functions use; no public call's contract cites it.
--     Bounds       what follows from the limits
--     Rows         the rows of the table of op codes, by number and by their enum, and the limits of their fields
--     WellFormed   trees that code is the flat writing of, and their depth
--     Change       what an opener or a closer does to the open entries
--     Walk         the walk over a code section as one pass
--     Marks        the table of writers that the walk fills
--     Seen         what proofs ask of each instruction: its view, and the registers that it names
--     Sound        what a sound file is known to hold
--     Sections     the table of sections
--     Unstated     instructions, codes and programs with their statements taken out
pub mod Bounds
pub mod Rows
pub mod WellFormed
pub mod Change
pub mod Walk
pub mod Marks
pub mod Seen
pub mod Sound
pub mod Sections
pub mod Unstated
