-- What the contracts cite: the networks of an address.
pub mod Networks
