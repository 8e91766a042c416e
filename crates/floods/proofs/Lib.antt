-- The laws of a mission's pairs. To be read: what the pairs say of a datagram, Sought and Placed; what is held after one, Held; what a sweep leaves, Swept.
-- Seeking, Keeping and Sweeping serve the code's proofs.
pub mod Sought
pub mod Held
pub mod Seeking
pub mod Keeping
pub mod Swept
pub mod Sweeping
pub mod Placed
