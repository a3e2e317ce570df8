pub mod PartLists
pub mod PartSteps
pub mod WalkSteps
pub mod Occurrences
pub mod WalkedLaws
pub mod RecordLaws
pub mod RuleLaws
pub mod AnswerLaws
