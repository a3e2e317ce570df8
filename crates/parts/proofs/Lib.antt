pub mod PartLaws
pub mod SelectLaws
mod CutWords
mod WordSearch
mod SelectedEnds
