pub mod Sharing
pub mod Text
pub mod Example
pub mod Inner
