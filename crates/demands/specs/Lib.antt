-- The demands, making again what was read, the bad word that check and reading name, and the bench sheet. What each call means stands in the call's crate.
pub mod Demand1
pub mod Demand2
pub mod Demand3
pub mod MadeAgain
pub mod BadWords
pub mod BenchSheet
