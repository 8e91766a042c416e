-- What the contracts cite: a header's limits and form, reading it, building it, sending it on, and the ranges of its fields. Shortest is for laws
-- alone.
pub mod Limits
pub mod Form
pub mod Read
pub mod Build
pub mod Shortest
pub mod Onward
pub mod Range
