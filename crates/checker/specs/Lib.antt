pub mod Checking
pub mod Checks
