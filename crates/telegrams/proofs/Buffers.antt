-- `Fronts` has a buffer that is written from the front part by part, `Completed` the telegram that stands in the buffer at the end, `UserBits`
-- the user bits that are written from its words.
pub mod Fronts
pub mod Completed
pub mod UserBits
