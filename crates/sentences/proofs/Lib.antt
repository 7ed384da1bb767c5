-- `Unique` has that each contract leaves one outcome.
pub mod Unique
