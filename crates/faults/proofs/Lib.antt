pub mod RowLaws
pub mod CallLengthLaws
pub mod FaultsByPosition
pub mod RowOperations
pub mod RowOfAStatement
pub mod RemovalCounts
pub mod RowTableFill
pub mod Refusal12
