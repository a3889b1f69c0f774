-- Slips. `Stretches` has neighbouring elements of lists, `Periods` words in bits with a short period, `Slipped` lost bits and bits put in as one
-- kind, `FarEnough` proves that these are refused far enough from the edges, `Anywhere` that near an edge they are refused or no damage,
-- `OneMore` that one more is missed. Assumes nothing.
pub mod Stretches
pub mod Periods
pub mod Slipped
pub mod FarEnough
pub mod Anywhere
pub mod OneMore
