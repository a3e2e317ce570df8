pub mod WordLaws
pub mod WriteLaws
pub mod QuestionLaws
pub mod ListQuestionLaws
pub mod RangeQuestionLaws
pub mod OutcomeLaws
pub mod ReadLaws
mod StrayLaws
pub mod ZeroLaws
pub mod RefusalLaws
pub mod OwnWordsLaws
