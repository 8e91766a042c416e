-- The laws of headers. To be read: Refusals, Answers, Trip, Again, Shortest, Beyond, SentOn, FoundLaws, BuiltLaws, Promises; the others serve them and the
-- code's proofs. Tests is for callers of this crate's functions.
pub mod Tests
pub mod Bounds
pub mod Passed
pub mod Bits
pub mod Pieces
pub mod BuiltLaws
pub mod Trip
pub mod Back
pub mod Again
pub mod Shortest
pub mod Alike
pub mod Beyond
pub mod Answers
pub mod SentOn
pub mod Refusals
pub mod FoundLaws
pub mod Promises
