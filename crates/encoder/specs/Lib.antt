pub mod Encoding
pub mod FirstPair
pub mod Encodes
pub mod Searched
pub mod Tested
