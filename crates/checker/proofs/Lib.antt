-- `Exact` has the theorem `checks`: what is accepted, and which number a refusal has. `Steps` and `WellFormed` serve the code's proofs too.
pub mod Steps
pub mod WellFormed
pub mod Exact
