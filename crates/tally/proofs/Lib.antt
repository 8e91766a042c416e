-- What the counting hands together.
pub mod Moves
