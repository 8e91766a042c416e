-- What the contracts cite: for each setting the tests that may refuse it, in page 01's order; the ports that are set up; whether another place holds
-- the same entry.
pub mod Lists
pub mod Ready
pub mod Elsewhere
