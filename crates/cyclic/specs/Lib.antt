pub mod Remainder
pub mod Check
pub mod Machine
