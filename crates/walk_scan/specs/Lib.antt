-- What the contracts of `walk_scan` cite. Files that end in `Laws` hold consequences, which a reader may skip.
pub mod CountLaws
pub mod Index
pub mod IndexLaws
pub mod NameLaws
pub mod Number
pub mod NumberLaws
pub mod Run
pub mod RunLaws
pub mod Tail
pub mod TailLaws
pub mod WordLaws
