-- The laws of the queue. To be read: Order, Cases, Waiting, Sound, Waits, Foretold and Mistaken; the others serve these and the code's proofs.
mod Compare
pub mod Each
pub mod Order
mod Steps
pub mod Cases
pub mod Waiting
pub mod Sound
pub mod Waits
pub mod Foretold
pub mod Mistaken
