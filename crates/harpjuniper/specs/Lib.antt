-- What the contracts of reading and building cite.
pub mod Face
