-- Numbers and their words are each other's inverse, and the proofs of the functions. Assumes nothing.
pub mod Halves
