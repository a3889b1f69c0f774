-- `Twice` has the bits of a ring as its bits written twice, `Tests` the conditions of a proper telegram as tests that compute in few steps,
-- `Blocks` the block of each format whose telegram passes them.
pub mod Twice
pub mod Tests
pub mod Blocks
