-- What the contracts of this crate cite.
pub mod Halves
pub mod Pairs
pub mod Walks
pub mod Spreads
pub mod Powers
