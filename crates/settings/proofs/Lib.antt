-- The laws of the settings' checks. To be read: Values, PortMask and PortSets, each the plain meaning of its tests, and Examples;
-- Answers serves the code's proofs.
pub mod Answers
pub mod Values
pub mod PortMask
pub mod PortSets
pub mod Examples
