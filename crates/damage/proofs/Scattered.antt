-- Scattered changes. `Powers` has shifts of any space taken several at a time, `BoseRayChaudhuriHocquenghem` the bound, `Orders` and `Roots`
-- what it needs of each format's g, `Distance` that bits which g divides differ in many places, `FewChanges` that few changes are refused,
-- `OneMore` that one more is missed. Assumes nothing.
pub mod Powers
pub mod BoseRayChaudhuriHocquenghem
pub mod Orders
pub mod Roots
pub mod Distance
pub mod FewChanges
pub mod OneMore
