pub mod Lent
pub mod Level
