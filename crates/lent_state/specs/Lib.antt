-- What the contracts of the calls from C cite: the views of a lent board and of a lent state, and a record read word by word.
pub mod View
pub mod Read
