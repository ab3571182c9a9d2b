pub mod Counts
pub mod Trees
pub mod Calls
