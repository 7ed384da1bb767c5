-- What the contracts of `wide` cite. Files that end in `Laws` hold consequences, which a reader may skip.
pub mod Mode
pub mod Check
pub mod Read
pub mod Render
pub mod PlainLaws
pub mod AsciiLaws
pub mod StepLaws
