pub mod Answers
pub mod Places
pub mod Refusals
pub mod Runs
