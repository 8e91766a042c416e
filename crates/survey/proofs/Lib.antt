-- What the walks over the ports hand together, Walk; that a set met with what a walk gathers is what it gathers of that set, Within; which ports a
-- set has, Bits; and what the names of the ports say, Naming.
pub mod Walk
pub mod Within
pub mod Bits
pub mod Naming
