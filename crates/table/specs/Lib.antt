pub mod ReadTable
pub mod TreeReading
