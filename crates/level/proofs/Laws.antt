pub mod Restrictions
pub mod Level
