-- When two pairs are the same.
pub mod Pairs
