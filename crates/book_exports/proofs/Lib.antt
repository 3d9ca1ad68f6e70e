-- The lemmas of this crate.
mod Cells
mod SeatBytes
mod Turning
mod Holding
mod Fillings
