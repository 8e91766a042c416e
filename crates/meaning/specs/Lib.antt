-- What the contracts cite: what the addresses of a header name, by the arrival port.
pub mod Names
-- What the contracts cite: what the verdict asks of a header.
pub mod Asked
-- What the contract cites: the checks of a good header.
pub mod Arrival
-- What the contracts cite: a flooded datagram and its pair.
pub mod Flood
