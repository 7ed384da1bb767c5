-- What the contract of `book_key` cites. Files that end in `Laws` hold consequences, which a reader may skip.
pub mod Field
pub mod FieldLaws
pub mod MadeLaws
