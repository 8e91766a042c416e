-- The laws of a batch. Sums: where the items begin. Laid: datagrams laid end to end are the items. Planning: the names of the ports, and what refuses
-- the whole call. Stretches, Finishing, Sent: an item's octets and its stretch of the output. Heard: a turn is what hearing one datagram does.
-- Missions: and leaves the same mission for the next. Assumes nothing.
pub mod Sums
pub mod Laid
pub mod Planning
pub mod Stretches
pub mod Finishing
pub mod Sent
pub mod Heard
pub mod Missions
