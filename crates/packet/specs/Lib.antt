-- What the contracts of `packet` cite. Files that end in `Laws` hold consequences, which a reader may skip.
pub mod Key
pub mod KeyLaws
pub mod PathLaws
pub mod WayLaws
