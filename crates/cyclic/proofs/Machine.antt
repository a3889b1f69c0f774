-- The laws between the registers of the code, which are numbers, and the definitions, which are over lists of bits. Assumes nothing.
pub mod Sums
pub mod Bridge
pub mod Out
pub mod Words
pub mod Running
pub mod Divisors
pub mod Lists
pub mod Turns
pub mod Tests
