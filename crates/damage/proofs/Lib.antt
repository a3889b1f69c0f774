-- For every kind of damage: `Sums` has sums of lists and their ones, `Places` lists compared place by place, `Shifts` shifts of any space,
-- `Divided` what g divides and differs only within 75 places, `Windows` what a window cut from a telegram has, `Pairs` when the ends of a
-- damaged window agree, `Readers` a reader with any tests for refusals 5 and 6, `Unseen` what both tests miss. A folder for each kind proves
-- what is said of it, of readers with the tests of the window calls; `WindowCalls` says that the window calls are such readers, `WrongReaders`
-- that readers with other tests are ruled out.
pub mod Sums
pub mod Places
pub mod Shifts
pub mod Divided
pub mod Windows
pub mod Pairs
pub mod Readers
pub mod Unseen
pub mod Bursts
pub mod Scattered
pub mod Slips
pub mod WindowCalls
pub mod WrongReaders
