-- What the contracts of `book_clear` cite. Files that end in `Laws` hold consequences, which a reader may skip.
pub mod StemLaws
pub mod Clear
pub mod Notes
pub mod RoleLaws
pub mod NotesLaws
pub mod QuickLaws
pub mod States
pub mod StatesLaws
pub mod Stay
pub mod StayLaws
pub mod Sweep
pub mod Whole
pub mod WholeLaws
pub mod LeftLaws
pub mod SweepLaws
pub mod RankLaws
pub mod ClearLaws
