pub mod Deliveries
pub mod Steps
