-- The laws of the networks crate. To be read: Domains, Subnets and Classes. Bits is what they and others know of single bits.
pub mod Bits
pub mod Domains
pub mod Subnets
pub mod Classes
