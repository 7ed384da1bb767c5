-- `Unique`: each contract leaves one outcome. `RecordLaws`: a lookup of a key that the book holds.
pub mod RecordLaws
pub mod Unique
