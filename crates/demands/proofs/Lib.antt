-- Demand 1: `Demand1`, and demand 2: `Demand2`, collected from the calls' crates. Demand 3: `Demand3`, by way of `Wrote` (a telegram that
-- encode wrote), `ShortFromLong` (a short window of a long one) and `LongFromShort` (a long window of a short one). What was read is made
-- again: `MadeAgain`. Check and reading name the same bad word: `BadWords`.
pub mod Demand1
pub mod Demand2
pub mod Wrote
pub mod ShortFromLong
pub mod LongFromShort
pub mod Demand3
pub mod MadeAgain
pub mod BadWords
pub mod Sheet
pub mod SomeBlock
