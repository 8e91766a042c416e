-- What the contract of receiving cites.
pub mod Face
