pub mod Refused
pub mod Outcome
pub mod Table
pub mod AnswerValues
