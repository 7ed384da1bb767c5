-- `Diagnosis` is what the contracts cite, and `Table` how the code writes the kinds. Files that end in `Laws` hold consequences, which a
-- reader may skip.
pub mod Diagnosis
pub mod Table
pub mod AgreeLaws
pub mod PiecesLaws
pub mod ShapeLaws
pub mod NearestLaws
pub mod ReasonLaws
pub mod FaultLaws
pub mod PlaceLaws
pub mod ShownLaws
pub mod AnswerLaws
