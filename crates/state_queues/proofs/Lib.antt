-- What the loops over a queue's words hand together, and what owning its entries tells.
pub mod Queues
pub mod Held
