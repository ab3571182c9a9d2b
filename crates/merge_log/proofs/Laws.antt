pub mod Log
pub mod Once
pub mod Places
pub mod Runs
pub mod Undo
