-- What a call leaves, by what it called.
mod Kept
