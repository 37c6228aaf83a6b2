pub mod AnswerText
pub mod RequestText
pub mod HeardLine
pub mod RecipeWords
