-- `PairTests` has the tests that the calls with a block and a pair share, `Steps` the answer of make row by row of its table, `Exact` what it means.
pub mod PairTests
pub mod Steps
pub mod Exact
