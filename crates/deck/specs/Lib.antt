pub mod Deck
pub mod Schema
pub mod Load
pub mod Answers
pub mod Unfolding
