-- Told: what the pieces of each call come to over the list.
pub mod Told
