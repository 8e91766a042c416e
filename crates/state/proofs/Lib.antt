-- The laws of the board and of a mission's state. To be read: Words, Fresh, Places, Seen; Records, Reading and Writing serve these and the code's
-- proofs.
pub mod Records
pub mod Words
pub mod Fresh
pub mod Reading
pub mod Writing
pub mod Sizes
pub mod Places
pub mod Seen
