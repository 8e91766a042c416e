-- What the contract of answering cites.
pub mod Face
