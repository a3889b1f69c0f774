-- `Exact` has the theorems `searches` and `search_reads`; `Places` the windows of a capture and the first place, `Attempts` one try, `FoundAt`
-- what the tries at a place tell, `Accepting` the places at which read accepts, `Steps` the answers by the tables.
pub mod Places
pub mod Attempts
pub mod FoundAt
pub mod Accepting
pub mod Steps
pub mod Exact
