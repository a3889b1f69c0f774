-- `Steps` has the answer by the tests and the search, `NextOrNone` the next proper pair or no more, `Exact` what a call means, `FirstIsEncode` that
-- the first pair of all is encode's; `JustAfter` where a listing goes on, `AllListed` that it has every proper pair once, in order, and no other.
pub mod Steps
pub mod NextOrNone
pub mod Exact
pub mod FirstIsEncode
pub mod JustAfter
pub mod AllListed
