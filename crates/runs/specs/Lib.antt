-- Lists of calls: their runs, and what rearranging them leaves as it was. Nothing here speaks of paths or books.
-- Files that end in `Laws` hold consequences, which a reader may skip.
pub mod CellLaws
pub mod MachineLaws
pub mod Rearranged
pub mod Runs
pub mod RunsLaws
pub mod Total
pub mod TotalLaws
pub mod Without
pub mod WithoutLaws
