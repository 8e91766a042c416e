-- Told serves the proof of the call.
pub mod Told
