-- The laws of same entries. To be read: Meaning; Others serves the code's proofs.
pub mod Others
pub mod Meaning
