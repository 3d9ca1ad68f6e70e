pub mod Lines
pub mod Refusals
pub mod Arrangers
pub mod Degrees
pub mod Theorem
