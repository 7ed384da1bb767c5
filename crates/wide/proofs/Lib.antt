-- `Unique` has that each contract leaves one outcome. The others hold the laws that rest on how an identifier is checked.
pub mod AsciiLaws
pub mod PlainLaws
pub mod StepLaws
pub mod Unique
