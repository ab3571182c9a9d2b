pub mod Lines
pub mod LoadCall
