pub mod VerdictAnswers
