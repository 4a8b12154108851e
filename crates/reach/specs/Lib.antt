pub mod Matrix
pub mod CallsInATable
