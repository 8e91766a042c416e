-- What taking hands together: the outcomes.
pub mod Outcomes
