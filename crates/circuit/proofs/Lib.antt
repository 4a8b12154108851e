-- What the proofs of several functions, and of callers, use.
pub mod LoopsOverWires
mod WireSets
mod WellFormedGate
mod GateCheckLaws
pub mod WireListReading
pub mod GateReading
pub mod CircuitReading
pub mod GateBytes
