pub mod Decimal
pub mod Faults
pub mod Input
pub mod Reading
pub mod Writing
