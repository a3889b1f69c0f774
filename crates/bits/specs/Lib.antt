pub mod Bits
pub mod Differences
pub mod Search
pub mod Groups
