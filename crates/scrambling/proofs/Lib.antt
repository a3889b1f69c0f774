-- `Scrambled` and `Summed` have the laws that the crates above cite.
pub mod Steps
pub mod Scrambled
pub mod Summed
