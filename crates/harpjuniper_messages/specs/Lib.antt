-- What the contracts of reading and building echo messages cite.
pub mod Face
