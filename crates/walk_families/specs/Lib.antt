-- What the contracts of `walk_families` cite. Files that end in `Laws` hold consequences, which a reader may skip.
pub mod Client
pub mod ClientLaws
pub mod Ends
pub mod Flat
pub mod FlatLaws
pub mod NameLaws
pub mod PieceLaws
pub mod Upgrade
pub mod UpgradeLaws
