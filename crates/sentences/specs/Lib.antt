-- What the proofs of `sentences` use.
-- Assumes nothing.
pub mod SentenceLaws
