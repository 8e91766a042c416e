-- What a list of words is cut into.
pub mod Cut
