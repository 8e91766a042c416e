-- What the contracts cite: the numbers that C is told.
pub mod Answers
