-- Theorems over the definitions that belong to no one function.
--     Definitions   all definitions open
--     Opening       what is known of an accepted file
--     JudgeCall     what judge answers where its code returns
--     Listed        a list of numbers that are all below a limit
--     Running       ... of run
--     Printing      ... of line
--     Counted       what the counts of run sum to
--     Unstated      a file with its statements taken out is judged and run alike
--     Longest       the longest line
--     Prefix        bench prints the same for the first 33,174 bytes as for the whole file
--     Cases         the standard's starred cases
--     Examples      worked examples, computed
pub mod Definitions
pub mod Opening
pub mod JudgeCall
pub mod Listed
pub mod Running
pub mod Printing
pub mod Counted
pub mod Unstated
pub mod Longest
pub mod Prefix
pub mod Cases
pub mod Examples
