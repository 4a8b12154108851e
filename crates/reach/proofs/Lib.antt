-- What the proofs of several functions use, and what the code's matrix is for the program of a table.
pub mod MatrixRelation
pub mod MatrixOfAProgram
pub mod MatrixOperations
pub mod CallsOfAStatement
pub mod ReachByMatrix
