pub mod ControlSets
pub mod ControlBytes
