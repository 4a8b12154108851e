-- What is put down and read of a program, that it is the record that was read, and what a record's step and parts say of its statement.
pub mod RecordsOfAProgram
pub mod KeptRecords
pub mod StatementByStep
pub mod StatementAtARecord
pub mod PartsOfARecord
pub mod UnseenWidths
