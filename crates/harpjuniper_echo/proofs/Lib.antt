-- Joined: the reply in two halves, with the scan between them, is page 02's. Told serves the proof of the call.
pub mod Joined
pub mod Told
