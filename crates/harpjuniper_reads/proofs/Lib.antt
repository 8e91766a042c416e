-- The laws of reading back. To be read: Whole; Read serves the code's proofs.
pub mod Read
pub mod Whole
