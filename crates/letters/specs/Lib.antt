-- What the contracts of `letters` cite. Files that end in `Laws` hold consequences, which a reader may skip.
pub mod Character
pub mod CharacterLaws
pub mod Class
pub mod ClassLaws
pub mod Narrow
pub mod NarrowLaws
pub mod Table
pub mod TableLaws
pub mod Text
pub mod TextLaws
pub mod TrimLaws
pub mod Trimmed
pub mod WhiteLaws
