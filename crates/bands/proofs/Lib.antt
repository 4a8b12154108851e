-- What the proofs of several functions use.
mod RowText
mod KeptMarks
mod BandText
mod BandStarts
mod BandAnswers
