pub mod Answers
pub mod Files
pub mod Roots
pub mod Schemas
pub mod States
pub mod Passed
