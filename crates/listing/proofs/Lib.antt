-- The laws of the list as a mission sees it. To be read: Standing and Counting, what stands and what counts; Searched and Same, what a scan finds.
-- Fitting, Loop and Seeing lead there, and Turns is what the functions' proofs ask of a scan's step.
pub mod Turns
pub mod Standing
pub mod Counting
pub mod Fitting
pub mod Loop
pub mod Seeing
pub mod Searched
pub mod Same
