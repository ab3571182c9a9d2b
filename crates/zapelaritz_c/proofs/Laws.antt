pub mod NumberedCalls
pub mod PrintedTexts
