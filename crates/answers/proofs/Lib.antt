-- The parts of an answer put together, and that C reads each back where it fits its place.
pub mod Joined
pub mod Digits
