pub mod AsNumber
