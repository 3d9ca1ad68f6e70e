pub mod Loads
pub mod Timetables
pub mod Stages
