-- `Shaping` has the words and their blocks, `Made` the telegram made from its fields, `WellFormed` the telegram that
-- is well-formed, `IsPair` the numbers B and esb, `FirstBad` the first word that is not in the table, `Checked` the check bits, `Buffers` what stands in a buffer while a telegram is made or undone.
pub mod Shaping
pub mod Made
pub mod Checked
pub mod WellFormed
pub mod Buffers
pub mod IsPair
pub mod FirstBad
