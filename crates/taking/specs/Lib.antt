-- What the contracts cite: taking from a port.
pub mod Taking
