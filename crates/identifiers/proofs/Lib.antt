-- `Unique` has that each contract leaves one outcome; `Cases` worked cases.
pub mod Unique
pub mod Cases
