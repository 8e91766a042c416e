-- The laws of the checksum, and the proofs of the functions. Assumes nothing.
pub mod Words
pub mod Laws
pub mod TwoAtOnce
