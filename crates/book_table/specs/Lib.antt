-- What the contracts of `book_table` cite. Files that end in `Laws` hold consequences, which a reader may skip.
pub mod First
pub mod FirstLaws
pub mod Hash
pub mod HashLaws
pub mod Table
pub mod Probe
pub mod TableLaws
pub mod ProbeLaws
pub mod WayLaws
pub mod SpotLaws
pub mod Lines
pub mod LineLaws
pub mod Many
pub mod ManyLaws
pub mod OneLaws
