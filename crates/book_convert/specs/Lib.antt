-- What the contracts of `book_convert` cite. Files that end in `Laws` hold consequences, which a reader may skip.
pub mod Convert
pub mod CopyLaws
pub mod ConvertLaws
pub mod OwnersLaws
