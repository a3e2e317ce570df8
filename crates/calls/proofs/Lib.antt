pub mod SoundLaws
pub mod CallLaws
pub mod HistoryLaws
pub mod EncodingLaws
pub mod EncodedWords
pub mod ReplayLaws
