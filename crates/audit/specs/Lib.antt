-- The law over histories, and what it is about: calls, their answers, and the book that they speak of.
pub mod History
pub mod Law
pub mod Calls
pub mod States
pub mod Replays
pub mod Inner
pub mod Entries
pub mod Refuted
pub mod Admitted
