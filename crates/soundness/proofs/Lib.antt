-- Demand 3, proved.
--
-- From the rules to the places of the code:
--     Prefix           prefixes of blocks, and what a move's ends say of its atomicity
--     Places           lists read place by place, stretches of places
--     Labelled         every move of the machine is along an edge
--     Flow             every edge of typed code follows
--     Coverage         the labels of typed code say where the blocks are
--     Annotated        so typed code is annotated
-- The machine:
--     Access           an instruction by its shared access
--     Owns             a move keeps the locks held
--     Independent      accesses of two threads that may swap are independent
--     Move             one move, and the invariant
--     Commute          two moves commute
--     Instance         the machine obeys the laws of movers
--     Naming           naming the moves changes nothing of a run
--     Traced           a list as a trace, and back
--     Serialize        demand 3 for annotated programs
-- The file:
--     Accepted         an accepted file's program is annotated
--     Demand           demand 3
--     Example          it is not empty
--     Unserialized     a program of which it does not hold, and which is refused
pub mod Prefix
pub mod Places
pub mod Labelled
pub mod Flow
pub mod Coverage
pub mod Annotated
pub mod Access
pub mod Owns
pub mod Independent
pub mod Move
pub mod Commute
pub mod Instance
pub mod Naming
pub mod Traced
pub mod Serialize
pub mod Accepted
pub mod Demand
pub mod Example
pub mod Unserialized
