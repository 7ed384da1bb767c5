-- `Steps` has what the cases of an answer tell; `Unique`: the contract leaves one outcome.
pub mod Steps
pub mod Unique
