pub mod Making
pub mod Makes
pub mod PairTests
