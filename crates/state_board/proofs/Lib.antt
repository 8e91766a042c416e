-- A port that a mission sees, and one that is set up, over plain variables.
pub mod Own
pub mod SetUp
