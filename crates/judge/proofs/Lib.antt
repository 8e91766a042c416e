-- To be read: Finished and Searching, that judging, searching and finishing give the ending; Took, where a port takes an entry. What the stages hand together is in
-- Stages; that the wanted ports are enough to ask is in Wanted.
pub mod Stages
pub mod Wanted
pub mod Finished
pub mod Searching
pub mod Took
pub mod Remembering
