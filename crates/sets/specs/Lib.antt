-- How many ports, places and counters there are, and what loops over them gather.
pub mod Limits
pub mod Sets
