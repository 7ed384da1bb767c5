-- `Steps` has what the cases of an answer tell; `Unique`: each contract leaves one outcome.
pub mod Steps
pub mod Unique
