-- What the contracts cite: the rule of the verdict, both halves.
pub mod Rule
-- What the contracts cite: page 01's numbers of the halves.
pub mod Numbers
