-- The specifications of this crate.
pub mod Choice
pub mod Fullest
pub mod Heaviest
pub mod Likeness
pub mod LoadLaws
pub mod Loads
pub mod Steps
