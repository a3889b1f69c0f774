-- Windows with damaged bits, and what the window calls answer to them.
pub mod Bursts
pub mod Readers
pub mod Answers
pub mod Scattered
pub mod Slips
