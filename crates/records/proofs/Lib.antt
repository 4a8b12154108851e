-- What the proofs of several functions use.
pub mod FieldLaws
pub mod ReadingAtAPlace
