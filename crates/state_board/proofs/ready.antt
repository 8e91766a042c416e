-- What serves the loops over the ports.
pub mod Ready
