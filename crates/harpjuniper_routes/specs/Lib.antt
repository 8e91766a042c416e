-- What the contracts of the calls on a list of routes cite.
pub mod Face
