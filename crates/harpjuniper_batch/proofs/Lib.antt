-- Steps: what the steps of a turn hand together. Turns: what the turns do to what is lent.
pub mod Steps
pub mod Turns
