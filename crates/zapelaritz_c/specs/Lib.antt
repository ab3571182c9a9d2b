pub mod NumberedCalls
pub mod PrintedTexts
pub mod Version
