-- `Unique`: each contract leaves one outcome. `NumberLaws` and `WrongLaws`: the reader's word on a bad number is what `Number` in specs/ says.
pub mod NumberLaws
pub mod Unique
pub mod WrongLaws
