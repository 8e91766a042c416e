-- The front of a header over plain variables, and the proofs of the functions. Assumes nothing.
pub mod Laws
