pub mod Table
pub mod Words
pub mod PartsOf64
pub mod BarredOf64
