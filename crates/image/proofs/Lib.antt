pub mod Collecting
pub mod Images
pub mod Loops
pub mod Readings
pub mod Settled
pub mod Sounds
pub mod Walks
