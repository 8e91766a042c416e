-- The laws that loops over ports and places are proved by, and which ports a set has.
pub mod Loops
pub mod Anywhere
pub mod Members
pub mod First
