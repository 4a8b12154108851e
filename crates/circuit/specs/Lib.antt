pub mod GatesInBytes
pub mod GateChecks
pub mod Header
pub mod GatesToWrite
