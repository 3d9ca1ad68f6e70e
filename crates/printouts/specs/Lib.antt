-- The specifications of this crate.
pub mod Faults
pub mod Plans
