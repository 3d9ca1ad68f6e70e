-- The specifications of this crate.
pub mod Bytes
