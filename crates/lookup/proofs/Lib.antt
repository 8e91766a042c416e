-- What the searches of groups and of paths share.
pub mod Found
