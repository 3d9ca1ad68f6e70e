-- Lemmas about sheets.
pub mod Noting
pub mod Rows
pub mod Writing
pub mod Whole
