-- What the contracts cite: which records of the lent list count, and the relay that a mission sees with that list; what a scan of it finds.
pub mod Listed
pub mod Scan
