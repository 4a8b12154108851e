-- What the proofs of several functions use, and that what the program writes is the page.
mod BandLimits
mod PartLaws
mod PageParts
