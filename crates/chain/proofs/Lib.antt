-- Lemmas about the colours of lines and the tables that go with them.
mod Bits
mod Crowds
mod Laws
mod Moving
mod Paths
mod Refused
mod Steps
mod Tables
