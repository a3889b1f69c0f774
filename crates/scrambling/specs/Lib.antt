pub mod Scrambling
pub mod Sum
