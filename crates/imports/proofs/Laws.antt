pub mod Entering
pub mod Together
pub mod Imports
