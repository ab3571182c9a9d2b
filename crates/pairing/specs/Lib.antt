pub mod Props
pub mod Lent
pub mod Actions
pub mod Keys
pub mod Plans
pub mod Walks
