-- What the contracts of `book_form` cite. Files that end in `Laws` hold consequences, which a reader may skip.
pub mod Moves
pub mod MovesLaws
pub mod Form
pub mod FormLaws
pub mod Counted
pub mod CountedLaws
pub mod Version
pub mod VersionLaws
pub mod GapLaws
pub mod Compare
pub mod CompareLaws
pub mod NextLaws
pub mod WordsLaws
pub mod BlankLaws
pub mod Tells
