-- What the contracts cite: the places of groups and paths.
pub mod Lookup
-- What the contracts cite: the place of a group, the route of an address.
pub mod ForTarget
