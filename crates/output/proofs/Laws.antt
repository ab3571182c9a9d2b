pub mod Answers
pub mod Entries
pub mod Replies
pub mod Runs
