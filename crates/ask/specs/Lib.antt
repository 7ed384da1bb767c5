-- What the contract of `ask` cites.
pub mod Answer
pub mod AnswerLaws
pub mod Input
pub mod InputLaws
pub mod StepLaws
pub mod Run
pub mod RunLaws
