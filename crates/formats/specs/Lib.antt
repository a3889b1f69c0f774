pub mod Polynomial
pub mod Numbers
pub mod Value
