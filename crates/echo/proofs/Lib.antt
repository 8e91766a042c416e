-- The checksum with its field as zero; what each function answers over plain variables; when the reader and the builder refuse; the round trips; and the proofs
-- of the functions. Assumes nothing.
pub mod Sums
pub mod Laws
pub mod Refusals
pub mod Trip
