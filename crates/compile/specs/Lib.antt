pub mod EmissionAnswer
