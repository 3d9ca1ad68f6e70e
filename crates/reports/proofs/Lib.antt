-- Lemmas about choices, counts and rankings.
mod Choosing
mod Comparing
mod Counting
mod Filling
mod Ranking
mod Weighing
