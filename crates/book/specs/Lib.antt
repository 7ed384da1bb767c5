-- What the contracts of `book` cite. Files that end in `Laws` hold consequences, which a reader may skip.
pub mod Book
pub mod BookLaws
pub mod Outcome
pub mod OutcomeLaws
pub mod WayLaws
pub mod Check
pub mod CheckLaws
pub mod ShareLaws
pub mod SizeLaws
pub mod CheckWayLaws
pub mod Find
pub mod FindLaws
pub mod RecordLaws
pub mod Open
pub mod OpenLaws
