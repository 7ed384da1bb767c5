-- What the contracts of `iteration` cite. Files that end in `Laws` hold consequences, which a reader may skip.
pub mod Block
pub mod BlockLaws
pub mod Key
pub mod KeyLaws
pub mod ReadLaws
pub mod ScanLaws
pub mod Search
pub mod SearchLaws
