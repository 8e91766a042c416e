-- The laws of cut lists. To be read: Sections; the others serve it, the definitions above and their callers' loops.
pub mod Parts
pub mod Pieces
pub mod Cuts
pub mod Sections
pub mod Fill
