-- The laws of the lists of tests. To be read: Decided; Chains is for every function that takes checks in a row; Places serves the calls.
pub mod Chains
pub mod Decided
pub mod Places
