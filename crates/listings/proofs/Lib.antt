pub mod Listing
pub mod Quoting
