-- Lemmas about printouts.
pub mod Collecting
pub mod Planning
