-- What the contracts of `reading` cite. Files that end in `Laws` hold consequences, which a reader may skip.
pub mod Encode
pub mod EncodeLaws
pub mod RefusedLaws
