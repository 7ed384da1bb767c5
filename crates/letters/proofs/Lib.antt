-- `Examples` has worked cases; `Unique` that each contract leaves one outcome.
pub mod Examples
pub mod Unique
