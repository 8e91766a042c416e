-- What the contracts cite: what becomes of a received datagram, Ending; the ruling on one whose header is good, Ruling; what is known of it before
-- the search, and what is made of that then, Asked.
pub mod Ending
pub mod Ruling
pub mod Asked
-- What the contracts cite: what is remembered of it.
pub mod Remembered
