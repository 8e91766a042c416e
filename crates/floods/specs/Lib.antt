-- What the contracts cite: what the pairs say of a datagram, and what is kept of it, Memory; what a sweep frees, Sweep.
pub mod Memory
pub mod Sweep
