-- What the checksum is. Assumes nothing.
pub mod Sum
