-- What the contract of the batch cites.
pub mod Face
