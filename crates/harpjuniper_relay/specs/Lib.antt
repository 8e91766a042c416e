-- What the contracts of taking and of the reads cite, Face; and what the law of reading answers back speaks of, ReadBack.
pub mod Face
pub mod ReadBack
