-- What the contracts cite: the header of a copy on its next leg.
pub mod Leg
