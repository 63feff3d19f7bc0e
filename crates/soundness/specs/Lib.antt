-- What a reader must believe of demand 3 (the standard, "The step machine", "What is promised"):
--     Demand       demand 3
--     Naming       the moves of a list, their blocks and the blocks' order, by `AllPairs` of reduction's specs/Sequence.antt
-- Internal holds what only the proof speaks of.
pub mod Demand
pub mod Naming
pub mod Internal
