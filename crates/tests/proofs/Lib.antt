pub mod AnswerLaws
pub mod RowLaws
pub mod ScanLaws
pub mod PartLaws
pub mod TestLaws
pub mod RangeTestLaws
