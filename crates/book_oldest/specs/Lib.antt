-- What the contracts of `book_oldest` cite. Files that end in `Laws` hold consequences, which a reader may skip.
pub mod PrefixLaws
pub mod Oldest
