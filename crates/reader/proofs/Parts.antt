-- `TurnedBack` has bits that are turned back into a buffer, `Found` the telegram of a window that stands in a buffer.
pub mod TurnedBack
pub mod Found
