-- Cases serves the proofs of the functions: what each definition gives by the tests that the code makes.
pub mod Cases
