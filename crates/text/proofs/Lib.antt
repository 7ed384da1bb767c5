-- `Steps` has what one turn of a number loop does; `Examples` worked cases; `Unique` that each contract leaves one outcome.
pub mod Steps
pub mod Examples
pub mod Unique
