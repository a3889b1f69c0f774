pub mod Tail
pub mod ShapedData
pub mod PairFrom
