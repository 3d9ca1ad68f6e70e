-- The lemmas of this crate.
mod Written
mod Repeats
mod Outcomes
