-- `Agreeing` has pairs that agree and the ends of windows, `Runs` that of a run of places only the first need be read, `Passing` the places
-- that a step passes, `QuickIsPlain` that the answers are those of the plain search.
pub mod Agreeing
pub mod Runs
pub mod Passing
pub mod QuickIsPlain
