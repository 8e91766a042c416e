-- What the contracts cite: the counters that an ending moves.
pub mod Tally
