pub mod TouchedPositions
pub mod Rows
pub mod CallLengths
pub mod RowTable
