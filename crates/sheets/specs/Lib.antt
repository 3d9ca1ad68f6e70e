-- The specifications of this crate.
pub mod Refusals
pub mod Sheets
pub mod Steps
