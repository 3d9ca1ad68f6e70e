-- Lemmas about lines; crates above use those marked pub.
pub mod Places
pub mod Accepted
mod Counting
pub mod Count
pub mod Swap
pub mod Colour
pub mod Pigeon
pub mod Exists
