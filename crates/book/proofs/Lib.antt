-- Lemmas about the stages of a timetable.
mod Lists
mod Linking
mod Crowding
mod Spreading
mod Seating
mod ByNode
mod Answering
mod Loading
