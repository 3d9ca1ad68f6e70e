pub mod Delivered
pub mod Lines
