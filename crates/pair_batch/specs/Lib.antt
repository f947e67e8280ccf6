pub mod Answers
pub mod Shares
