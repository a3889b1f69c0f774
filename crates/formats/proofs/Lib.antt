pub mod Fits
pub mod Sizes
pub mod TwoWords
