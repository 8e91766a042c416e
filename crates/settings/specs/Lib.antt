-- What the contracts cite: when the values of a setting are refused.
pub mod Refusals
pub mod Sets
