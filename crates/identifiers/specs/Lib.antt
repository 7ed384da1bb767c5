-- What the contracts of `identifiers` cite. Files that end in `Laws` hold consequences, which a reader may skip.
pub mod Check
pub mod CheckLaws
pub mod FaultLaws
pub mod Owned
pub mod OwnedLaws
pub mod IndexLaws
