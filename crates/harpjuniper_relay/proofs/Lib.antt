-- What the reads hand together, and that C reads back what is answered.
mod Calls
pub mod ReadBack
mod Kept
