-- What the contracts of `walk` cite. Files that end in `Laws` hold consequences, which a reader may skip.
pub mod ArmLaws
pub mod Bytes
pub mod BytesLaws
pub mod OpenLaws
pub mod Opening
pub mod OpeningLaws
pub mod ViewLaws
