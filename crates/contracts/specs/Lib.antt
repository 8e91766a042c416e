-- Promised: what the contracts of the 39 calls from C say, as one table. Stated: what they say, as they stand in the source; Named: of those that are
-- lent a list of routes. Functions: the code of each call, and that it asks nothing of its caller.
pub mod Promised
pub mod Named
pub mod Stated
pub mod Functions
