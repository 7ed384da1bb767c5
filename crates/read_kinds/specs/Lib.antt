-- What the proofs of `read_kinds` use. Files that end in `Laws` hold consequences, which a reader may skip.
pub mod UpgradeLaws
