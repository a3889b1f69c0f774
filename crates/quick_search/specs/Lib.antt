pub mod Pairs
pub mod Runs
pub mod Stepped
