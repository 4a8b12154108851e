pub mod MarkedRows
pub mod Starts
