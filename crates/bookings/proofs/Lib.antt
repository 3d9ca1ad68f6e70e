-- Lemmas about live transfers under their tickets, their counts, and the load of an image.
pub mod Facts
mod Counting
mod Tickets
mod Empty
mod Keeps
mod Largest
mod Records
mod Loading
mod Adding
mod Reaching
