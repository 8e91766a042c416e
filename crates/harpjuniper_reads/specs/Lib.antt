-- What the contracts of reading back cite.
pub mod Back
