-- What the contracts of `key` cite. Files that end in `Laws` hold consequences, which a reader may skip.
pub mod Key
pub mod KeyLaws
