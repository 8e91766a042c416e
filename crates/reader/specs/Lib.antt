-- What the reader's own stages answer.
pub mod Stages
