-- What the contracts of `writers` cite. Files that end in `Laws` hold consequences, which a reader may skip.
pub mod Texts
pub mod TextLaws
