-- What the contracts of `read_pieces` cite. Files that end in `Laws` hold consequences, which a reader may skip.
pub mod CountLaws
pub mod CutLaws
pub mod FitLaws
pub mod PairLaws
pub mod Pieces
