pub mod ReadersAlike
pub mod WaysAlike
pub mod AnswersAlike
pub mod TodaysWays
pub mod BasesZeroAndOne
pub mod PlainInsertion
pub mod WorkedBases
