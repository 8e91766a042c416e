-- What the contracts cite: the records of a fresh relay, a port that is set up, and whose place a record is.
pub mod Fresh
pub mod SetUp
pub mod Held
pub mod Owned
