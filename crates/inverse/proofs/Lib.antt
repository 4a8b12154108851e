-- What is copied of a table, and the answers.
pub mod TurnedStatements
pub mod CopiedRecords
pub mod InverseAnswers
