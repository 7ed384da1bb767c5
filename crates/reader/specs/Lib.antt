-- What the proofs of `reader` use. Files that end in `Laws` hold consequences, which a reader may skip.
pub mod ReadingLaws
