-- The bounds of the fields that numbers stand for, and the proofs of the functions. Assumes nothing.
pub mod Bounds
