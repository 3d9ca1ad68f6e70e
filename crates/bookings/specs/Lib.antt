pub mod Refusals
pub mod Model
pub mod Counts
pub mod Steps
pub mod Tables
pub mod Faults
pub mod Loading
