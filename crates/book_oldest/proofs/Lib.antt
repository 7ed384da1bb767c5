-- `Unique`: the contract leaves one outcome. `OldestLaws`: consequences of `Oldest`, which rest on a definition that an edit of must-fail/ turns.
pub mod OldestLaws
pub mod Unique
