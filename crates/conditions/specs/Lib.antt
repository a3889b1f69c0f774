pub mod Runs
pub mod Conditions
pub mod UpToInvalid
pub mod FirstFailing
