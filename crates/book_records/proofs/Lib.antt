-- What calls mean, where it rests on what a write of a retired key means.
pub mod CallLaws
pub mod TextLaws
