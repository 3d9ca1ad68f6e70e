-- Lemmas of this crate.
mod Counting
mod Pairing
mod Walking
mod Halving
mod Weaving
