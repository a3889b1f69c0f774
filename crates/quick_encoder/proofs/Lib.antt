-- The last 110 bits: `Tails` has how they change with esb, `Changes` and `Counting` which of ten constants that adds. A B that is dropped:
-- `ShapedRuns` has runs in the shaped data, `Dropped` that no esb completes it. The search: `Completing` has the shaped data with each esb,
-- `OneScrambling` the pairs of one B, `QuickIsPlain` that the answers are those of the plain search.
pub mod Tails
pub mod Changes
pub mod Counting
pub mod ShapedRuns
pub mod Dropped
pub mod Completing
pub mod OneScrambling
pub mod QuickIsPlain
