-- The laws between the two halves.
pub mod Promises
