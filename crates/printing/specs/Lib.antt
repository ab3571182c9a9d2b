pub mod Buffers
pub mod Counts
pub mod TreeLines
