-- `Table` has the laws of tables, `Fronts` a buffer written over at the front, `Outputs` what holds of every output of a length, `Numbers` the
-- refusals' numbers.
pub mod Table
pub mod Fronts
pub mod Numbers
pub mod Outputs
