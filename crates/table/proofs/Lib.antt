-- What the proofs of several functions use, and what is proved of a table that was read.
pub mod TreeReadingLaws
pub mod SpannedBytes
pub mod DecodedTrees
pub mod WholeTable
