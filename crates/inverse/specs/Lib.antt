pub mod TurnedRecords
