-- What the contracts cite: the octets of an echo message, and what is read of them; what building answers.
pub mod Message
pub mod Built
