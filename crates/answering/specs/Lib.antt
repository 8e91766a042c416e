-- What the contracts cite: answering an echo request, Echoed; answering in two steps, Split.
pub mod Echoed
pub mod Split
