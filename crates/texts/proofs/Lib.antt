pub mod FirstFault
pub mod SomeText
pub mod Taken
pub mod TextOfBits
