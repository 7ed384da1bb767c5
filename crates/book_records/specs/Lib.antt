-- What a book's records are and what a call asks of them; no bytes yet. Files that end in `Laws` hold consequences, which a reader may skip.
pub mod Records
pub mod RecordLaws
pub mod SplitLaws
pub mod Act
pub mod ActLaws
pub mod OwnerLaws
pub mod Calls
pub mod Refusals
pub mod MannerLaws
pub mod CallLaws
pub mod TextLaws
