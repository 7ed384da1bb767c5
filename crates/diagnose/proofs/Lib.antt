-- `Steps` has what it tells of a number text whether it has a value; `Examples`: the definition, computed; `Unique`: the contract leaves one outcome.
pub mod Steps
pub mod Examples
pub mod Unique
