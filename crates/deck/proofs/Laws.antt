pub mod Numbers
pub mod Parts
pub mod PathFields
pub mod Texts
pub mod Letters
pub mod Lines
pub mod Schema
pub mod Load
