pub mod Buffers
pub mod Parts
pub mod Digits
pub mod Lines
pub mod Trees
pub mod Tables
