-- The laws of the view. To be read: Same, two results that a promise allows are equal. Calls and Read serve the proofs of the calls from C.
pub mod Calls
pub mod Same
pub mod Read
