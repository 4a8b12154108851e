pub mod ByteBits
pub mod BlocksAndStates
pub mod WireOperations
pub mod WordRange
