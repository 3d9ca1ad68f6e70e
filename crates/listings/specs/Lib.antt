-- The specifications of this crate.
pub mod Listings
pub mod Quoted
