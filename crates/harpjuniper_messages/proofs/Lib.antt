-- The laws of echo messages as C calls them. To be read: Promises; Laws serves the proofs of the functions. Assumes nothing.
pub mod Laws
pub mod Promises
