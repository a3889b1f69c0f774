-- `Windows` has the laws of windows, `Ends` those of their ends, `AsAsked` a telegram that is as asked, `Steps` the answer by the verdict
-- and row by row, `Accepted` what an accepted window passed, `Turns` the turn of a window, `Laws` what other crates need of reading. `Exact`
-- proves what reading means, by way of `CutReads` (cut from a telegram means accepted) and `ReadsCut` (the other way), `ByRing` that
-- the verdict goes by the ring and not by the turn, `Strictly` how the two window calls go together, `NamesBadWord` which word refusal 9
-- names. `Parts` has what stands in the buffers while a window is read.
pub mod Windows
pub mod Ends
pub mod AsAsked
pub mod Steps
pub mod Accepted
pub mod Turns
pub mod Laws
pub mod CutReads
pub mod ReadsCut
pub mod Exact
pub mod ByRing
pub mod Strictly
pub mod NamesBadWord
pub mod Parts
