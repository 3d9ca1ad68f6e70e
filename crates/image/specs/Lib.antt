-- The specifications of this crate.
pub mod Cells
pub mod Faults
pub mod Images
pub mod Labels
pub mod Meaning
pub mod Readings
pub mod Records
pub mod Settled
pub mod Steps
