-- Lemmas about transfers shared out.
mod Steps
