-- What the entering hands together, and the writing of headers.
pub mod Entries
pub mod Headers
