-- The octets of each element over plain variables, and the proofs of the functions. Assumes nothing.
pub mod Laws
