-- `Unique`: the contract leaves one outcome.
pub mod Unique
