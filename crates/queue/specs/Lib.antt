-- What the contracts cite, Order and Queue; and what the laws of a queue's history speak of, Waits and Foretold.
pub mod Order
pub mod Queue
pub mod Waits
pub mod Foretold
