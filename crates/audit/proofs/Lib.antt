-- The law of a history, call by call.
mod Pushing
mod Stopping
mod Stepping
mod Tickets
mod Writing
mod ReplayLemmas
mod Small
mod Refuting
mod Admitting
