pub mod ControlText
mod WholeLines
pub mod CircuitListing
pub mod CircuitListingLength
mod ListAnswers
