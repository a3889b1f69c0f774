pub mod Captures
pub mod Attempts
pub mod FirstPlace
pub mod Tested
