-- What the contracts cite: receiving, Received; what goes out, Outgoing; what a datagram does to what is lent, Hearing; receiving in two steps, Split.
pub mod Received
pub mod Outgoing
pub mod Hearing
pub mod Split
