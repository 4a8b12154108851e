pub mod WordClauses
pub mod WordsAndStates
pub mod WalkOfAWord
pub mod RunAnswer
