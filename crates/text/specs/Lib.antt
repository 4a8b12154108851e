pub mod AppendedBytes
pub mod Inputs
