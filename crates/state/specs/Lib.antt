-- What the contracts cite: page 01's relay; what is lent and what a mission sees; the words.
pub mod Relay
pub mod Seen
pub mod Layout
