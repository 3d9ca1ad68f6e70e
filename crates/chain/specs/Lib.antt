-- The public interface cites Served; the other files are for the contracts of private functions.
pub mod Served
pub mod Palettes
pub mod Slots
pub mod Exchanges
pub mod Colourings
