-- The laws of the address crate. To be read: ClassTable, Marked, Paths and Masks; the others serve these and the code's proofs.
pub mod Clash
pub mod Families
pub mod RowClass
pub mod RowFound
pub mod ClassTable
pub mod Marked
pub mod Paths
pub mod Ones
pub mod Masks
pub mod Leading
