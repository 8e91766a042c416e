-- What the contracts cite: the octets of each element.
pub mod Measure
