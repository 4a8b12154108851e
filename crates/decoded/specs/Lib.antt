pub mod Layout
pub mod DecodedTable
pub mod RecordsPutDown
pub mod Steps
