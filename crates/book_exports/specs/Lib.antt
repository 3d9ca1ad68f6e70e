-- The specifications of this crate.
pub mod Filling
pub mod Seats
