-- The laws of the settings calls. To be read: Taken; Settled serves the code's proofs.
pub mod Settled
pub mod Taken
