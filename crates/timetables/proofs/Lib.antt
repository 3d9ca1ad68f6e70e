-- Lemmas about timetables; crates above use those marked pub.
pub mod Clashes
pub mod Loads
pub mod Stages
pub mod Exists
