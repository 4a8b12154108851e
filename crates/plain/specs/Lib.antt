pub mod Numbers
pub mod Ways
pub mod ReadingBy
pub mod MeaningBy
pub mod EmissionBy
pub mod AnswersBy
pub mod OldBases
pub mod PlainControls
