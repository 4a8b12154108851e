-- What the proofs of several functions, and of callers, use.
mod BarredWires
mod OutermostWires
pub mod MarkedBand
