-- The header of a copy over plain variables, its laws, and the proofs of the functions. Assumes nothing.
pub mod Made
pub mod Measured
pub mod ReadBack
pub mod Names
