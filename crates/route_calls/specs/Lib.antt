-- What the calls on a list of routes cite: the number of a search, what a call seeks in the list, and what it then answers and writes.
pub mod Search
pub mod Calls
