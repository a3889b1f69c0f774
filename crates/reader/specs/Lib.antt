pub mod Windows
pub mod Reads
pub mod AtTurn
pub mod CutFrom
pub mod ReadsExactly
pub mod NamesBadWord
pub mod ByRing
