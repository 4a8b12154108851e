-- What the proofs of several functions use, and that no more of the input is needed than is read.
mod InputPrefix
mod ListingText
