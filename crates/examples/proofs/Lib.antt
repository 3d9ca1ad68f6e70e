-- Lemmas for the worked examples.
mod Twins
