pub mod BodyLaws
pub mod RestLaws
pub mod PieceLaws
pub mod ReportLaws
pub mod MessageLaws
pub mod TallyLaws
pub mod ReaderLaws
pub mod SaysLaws
